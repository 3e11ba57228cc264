-- Inside a session in which room was made: what goes on, and what is refused.
use Rattle.std.proofs.Common.{◌≡◌, ℕ, false, List, Result, Ok, Err, ap, sym, subst, ◌∙◌}
use Rattle.language.specs.Lang.{Lang}
use Rattle.core_rules.specs.Standing.{has_ended}
use Rattle.message_values.specs.declared.editor_message.EditorMessage.{EditorMessage}
use Rattle.message_values.specs.declared.refusal.Refusal.{Refusal}
use Rattle.message_values.specs.Asked.{asked}
use Rattle.session_rules.specs.declared.service.Service.{Service}
use Rattle.session_rules.specs.Services.{mode_of}
use Rattle.session_rules.specs.Session.{Session}
use Rattle.session_rules.specs.Accepting.{taken}
use Rattle.keeping_rules.specs.Items.{SessionItem, session_in}
use Rattle.keeping_rules.specs.Kept.{IsListed}
use Rattle.document_session.specs.Contents.{SessionState}
use Rattle.document_session.proofs.Inside.{known_outside}

module _ {S : Type 0} (l : Lang S) (now inside : SessionState) (same : inside ≡ now) (items : List SessionItem) (same_items : items ≡ inside.items) where
  -- it has the same
  pub with_room : session_in l inside.service items ≡ session_in l now.service now.items
  with_room = ap (λ (is : List SessionItem). session_in l inside.service is) same_items
      ∙ ap (λ (x : SessionState). session_in l x.service x.items) same

  pub still_going : has_ended (session_in l now.service now.items).events ≡ false → has_ended (session_in l inside.service items).events ≡ false
  still_going going = ap (λ (t : Session). has_ended t.events) with_room ∙ going

  -- any fact of it
  pub still_known : (Q : Service → Session → Type 0) (waiting : List (List ℕ)) (s : Session) → IsListed l inside.service inside.items waiting s
      → Q inside.service s → Q inside.service (session_in l inside.service items)
  still_known Q waiting s k q = subst (Q inside.service)
      (sym (ap (λ (is : List SessionItem). session_in l inside.service is) same_items ∙ k.stands)) q

-- where a message asks something that is refused, the message is refused
pub refused_outside : {S : Type 0} (l : Lang S) (now inside : SessionState) (waiting : List (List ℕ)) (s : Session) (message : List (List ℕ))
    (m : EditorMessage) (reason : Refusal) → inside ≡ now → IsListed l inside.service inside.items waiting s → asked (mode_of now.service) message ≡ Ok m
    → taken l inside.service s (Ok m) ≡ Err reason
    → taken l now.service (session_in l now.service now.items) (asked (mode_of now.service) message) ≡ Err reason
refused_outside l now inside waiting s message m reason same k asks_it refused =
    ap (λ (r : Result EditorMessage Refusal). taken l now.service (session_in l now.service now.items) r) asks_it
    ∙ known_outside l (λ service t. taken l service t (Ok m) ≡ Err reason) now inside waiting s same k refused

-- with more room a session is the same
abbrev contents : Service → List SessionItem → List (List ℕ) → SessionState
contents service items waiting = record { service = service; items = items; waiting = waiting }

pub still_same : (service : Service) (items is : List SessionItem) (waiting ws : List (List ℕ)) (now : SessionState)
    → contents service items waiting ≡ now → is ≡ items → ws ≡ waiting → contents service is ws ≡ now
still_same service items is waiting ws now same same_items same_waiting =
    ap (λ (x : List SessionItem). contents service x ws) same_items ∙ ap (λ (w : List (List ℕ)). contents service items w) same_waiting ∙ same
