-- What callers know of a session, in its parts.
use Rattle.std.proofs.Common.{◌≡◌, false, List, ℕ, sym, subst}
use Rattle.language.specs.Lang.{Lang}
use Rattle.core_rules.specs.Standing.{has_ended}
use Rattle.session_rules.specs.declared.service.Service.{Service}
use Rattle.session_rules.specs.Session.{Session}
use Rattle.keeping_rules.specs.Items.{session_in}
use Rattle.keeping_rules.specs.Kept.{IsListed}
use Rattle.document_session.specs.Contents.{SessionState}

-- it has not ended
pub going_on : {S : Type 0} (l : Lang S) (now inside : SessionState) (waiting : List (List ℕ)) (s : Session) → inside ≡ now
    → IsListed l inside.service inside.items waiting s → has_ended (session_in l now.service now.items).events ≡ false → has_ended s.events ≡ false
going_on l now inside waiting s same k going =
    subst (λ (t : Session). has_ended t.events ≡ false) k.stands
    (subst (λ (x : SessionState). has_ended (session_in l x.service x.items).events ≡ false) (sym same) going)

-- the same of any fact, inwards and outwards
pub known_inside : {S : Type 0} (l : Lang S) (Q : Service → Session → Type 0) (now inside : SessionState) (waiting : List (List ℕ)) (s : Session)
    → inside ≡ now → IsListed l inside.service inside.items waiting s → Q now.service (session_in l now.service now.items) → Q inside.service s
known_inside l Q now inside waiting s same k q = subst (Q inside.service) k.stands
    (subst (λ (x : SessionState). Q x.service (session_in l x.service x.items)) (sym same) q)

pub known_outside : {S : Type 0} (l : Lang S) (Q : Service → Session → Type 0) (now inside : SessionState) (waiting : List (List ℕ)) (s : Session)
    → inside ≡ now → IsListed l inside.service inside.items waiting s → Q inside.service s → Q now.service (session_in l now.service now.items)
known_outside l Q now inside waiting s same k q = subst (λ (x : SessionState). Q x.service (session_in l x.service x.items)) same
    (subst (Q inside.service) (sym k.stands) q)
