-- Histories that one thread makes by itself: the reader works only where a settle waits (this
-- project's own).
use Rattle.std.specs.Prelude.{◌≡◌, suc, zero, false, List, [], ◌∷◌, ⊤, Option, Some, None}
use Rattle.exec_rules.specs.declared.version.Version.{Version}
use Rattle.language.specs.Lang.{Lang}
use Rattle.core_rules.specs.Stuck.{is_settled}
use Rattle.session_rules.specs.declared.service.Service.{Service}
use Rattle.session_rules.specs.Heard.{Heard, Message, Claimed, Finished, Dropped, Ended}
use Rattle.session_rules.specs.Session.{Session, document}
use Rattle.session_rules.specs.History.{session}
use Rattle.session_rules.specs.Legal.{awaited}

-- the version is not settled yet
abbrev pub IsUnsettled : {S : Type 0} → Lang S → Session → Version → Type 0
IsUnsettled l s version = is_settled l s.events (document l s) version ≡ false

-- each claim of the reader, worker 0, is followed at once by its finish; such pairs stand only
-- directly before a settle that is not refused, and its version isn't settled before each of them.
-- The version is the one that is waited for just after this history. What workers do whom messages
-- name stands where it is called for
abbrev pub IsAlone : {S : Type 0} → Lang S → Service → Option Version → List Heard → Type 0
IsAlone l service waited [] = ⊤
IsAlone l service waited (Message read ∷ h) = IsAlone l service (awaited l service h read) h
IsAlone l service waited (Ended ∷ h) = IsAlone l service None h
IsAlone l service (Some version) (Finished zero p ∷ Claimed zero q ∷ h) =
    (q ≡ p) × IsUnsettled l (session l service h) version × IsAlone l service (Some version) h
IsAlone l service waited (Claimed (suc w) p ∷ h) = IsAlone l service None h
IsAlone l service waited (Finished (suc w) p ∷ h) = IsAlone l service None h
IsAlone l service waited (Dropped (suc w) p ∷ h) = IsAlone l service None h
IsAlone l service waited (e ∷ h) = ⊥
