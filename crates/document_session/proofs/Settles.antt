-- What is answered to a settle, by what the core answers.
use Rattle.std.proofs.Common.{◌≡◌, ◌≢◌, ℕ, true, false, List, Some, Result, Ok, Err, refl, sym, ap, subst, ◌∙◌}
use Rattle.std.specs.Prelude.{Vec}
use Rattle.std.specs.declared.alloc.Global.{Global}
use Rattle.core_tables.specs.Live.{version_of}
use Rattle.exec_rules.specs.declared.version.Version.{Version}
use Rattle.language.specs.Lang.{Lang}
use Rattle.message_values.specs.declared.editor_message.EditorMessage.{EditorMessage}
use Rattle.message_values.specs.declared.editor_message.EditorMessage.TheVariants as asks
use Rattle.message_values.specs.declared.refusal.Refusal.{Refusal}
use Rattle.message_values.specs.declared.refusal.Refusal.TheVariants.{UnknownVersion, StepHeld}
use Rattle.message_values.specs.Asked.{asked}
use Rattle.reply_messages.specs.Forms.{IsRising}
use Rattle.reply_messages.specs.declared.told.Told.TheVariants as tells
use Rattle.core_rules.specs.declared.event.Event.{Event}
use Rattle.core_rules.specs.Doc.{doc}
use Rattle.core_rules.specs.Stuck.{stuck_in}
use Rattle.prover_core.specs.declared.settling.Settled.{Settled}
use Rattle.prover_core.specs.declared.settling.Settled.TheVariants as answer
use Rattle.prover_core.specs.Settling.{SettledSo}
use Rattle.pide_base.specs.declared.part.Part.{Part}
use Rattle.session_rules.specs.declared.service.Service.{Service}
use Rattle.session_rules.specs.Services.{mode_of, is_held_by_script}
use Rattle.session_rules.specs.Session.{Session}
use Rattle.session_rules.specs.Accepting.{taken}
use Rattle.session_rules.specs.Legal.{awaited_of}
use Rattle.keeping_rules.specs.session_replies_below.Spelling.{reply_spelling}
use Rattle.keeping_rules.specs.Items.{SessionItem, session_in}
use Rattle.keeping_rules.specs.Looks.{IsLook}
use Rattle.document_session.specs.Answers.{IsWaiting}
use Rattle.document_session.specs.Looks.{SettlesSo}
use Rattle.document_session.specs.declared.looking.Settling.{Settling}
use Rattle.document_session.specs.declared.looking.Settling.TheVariants as settling
use Rattle.document_session.proofs.Settled.{no_version, step_held, unsettled, awaits, settled_look}

-- a version that is known is live
live_of : {S : Type 0} (l : Lang S) (h : List Event) (id : ℕ) (a : Settled) → SettledSo l h id a → a ≢ answer.Unknown
    → (version : Version) × (version_of (doc l h).live id ≡ Some version)
live_of l h id (answer.Settled stuck) so known = (so.0.version, so.0.live)
live_of l h id (answer.Left part) so known = (so.0, so.1)
live_of l h id answer.Unknown so known = absurd (known refl)

module _ {S : Type 0} (l : Lang S) (service : Service) (s : Session) (id : ℕ) (a : Settled) (so : SettledSo l s.events id a) where
  pub unknown_so : a ≡ answer.Unknown → SettlesSo l service s id (settling.Refused UnknownVersion)
  unknown_so is = no_version l service s id (subst (λ (x : Settled). SettledSo l s.events id x) is so)

  pub held_so : a ≢ answer.Unknown → is_held_by_script service s.events ≡ true → SettlesSo l service s id (settling.Refused StepHeld)
  held_so known held = let at = live_of l s.events id a so known in step_held l service s id at.0 at.1 held

  pub left_so : (part : Part) → a ≡ answer.Left part → is_held_by_script service s.events ≡ false → SettlesSo l service s id settling.Waits
  left_so part is free =
      let at : SettledSo l s.events id (answer.Left part) = subst (λ (x : Settled). SettledSo l s.events id x) is so in
      (at.0, awaits l service s id at.0 at.1 free, unsettled l s.events at.0 part at.2)

  module _ (stuck : Vec ℕ Global) (is : a ≡ answer.Settled stuck) where
    so_settled : SettledSo l s.events id (answer.Settled stuck)
    so_settled = subst (λ (x : Settled). SettledSo l s.events id x) is so

    -- what is stuck rises
    pub stuck_rises : ((h : List Event) (version : Version) → IsRising (stuck_in l h (doc l h) version)) → IsRising stuck.items
    stuck_rises law = subst IsRising (sym so_settled.1) (law s.events so_settled.0.version)

    pub told_so : is_held_by_script service s.events ≡ false → (reply : Vec ℕ Global) → reply.items ≡ reply_spelling (tells.Settled id stuck.items)
        → SettlesSo l service s id (settling.Told reply)
    told_so free reply says = settled_look l service s id so_settled.0.version so_settled.0.live free so_settled.0.is_settled
        stuck.items so_settled.1 reply.items says

-- what is made of the answer, where the message asks to settle
module _ {S : Type 0} (l : Lang S) (service : Service) (items : List SessionItem) (message : List (List ℕ)) (id : ℕ) (a : Settling)
    (asks_it : asked (mode_of service) message ≡ Ok (asks.Settle id)) (so : SettlesSo l service (session_in l service items) id a) where
  pub waits_so : a ≡ settling.Waits → IsWaiting l service items message
  waits_so is =
      let at : SettlesSo l service (session_in l service items) id settling.Waits =
      subst (λ (x : Settling). SettlesSo l service (session_in l service items) id x) is so in
      record {
        version = at.0;
        waits_for = ap (λ (r : Result EditorMessage Refusal). awaited_of l service (session_in l service items) r) asks_it ∙ at.1;
        unsettled = at.2;
      }

  pub refused_so : (reason : Refusal) → a ≡ settling.Refused reason
      → taken l service (session_in l service items) (asked (mode_of service) message) ≡ Err reason
  refused_so reason is = ap (λ (r : Result EditorMessage Refusal). taken l service (session_in l service items) r) asks_it
      ∙ subst (λ (x : Settling). SettlesSo l service (session_in l service items) id x) is so

  pub look_so : (reply : Vec ℕ Global) → a ≡ settling.Told reply
      → IsLook l service (session_in l service items) (asked (mode_of service) message) reply.items
  look_so reply is = subst (λ (r : Result EditorMessage Refusal). IsLook l service (session_in l service items) r reply.items) (sym asks_it)
      (subst (λ (x : Settling). SettlesSo l service (session_in l service items) id x) is so)
