-- Which histories are legal, the newest entry first (Wenzel, ITP 2014, for claims and
-- cancellations; the rest is this project's own).
use Rattle.std.specs.Prelude.{◌≡◌, ℕ, ◌≤◌, ◌⊎◌, true, false, List, [], ◌∷◌, ⊤, Option, Some, None, Result, Ok, Err}
use Rattle.exec_rules.specs.declared.version.Version.{Version}
use Rattle.language.specs.Lang.{Lang}
use Rattle.message_values.specs.declared.editor_message.EditorMessage.{EditorMessage}
use Rattle.message_values.specs.declared.editor_message.EditorMessage.TheVariants as asks
use Rattle.message_values.specs.declared.refusal.Refusal.{Refusal}
use Rattle.core_rules.specs.declared.event.Event.{Event}
use Rattle.core_rules.specs.declared.event.Event.TheVariants as event
use Rattle.core_rules.specs.Standing.{has_ended}
use Rattle.core_rules.specs.Stuck.{is_settled}
use Rattle.core_rules.specs.Legal.{MayWork}
use Rattle.session_rules.specs.declared.service.Service.{Service}
use Rattle.session_rules.specs.Services.{free_workers}
use Rattle.session_rules.specs.Heard.{Heard, Message, Claimed, Finished, Dropped, Ended}
use Rattle.session_rules.specs.Session.{Session, document}
use Rattle.session_rules.specs.Looking.{settles}
use Rattle.session_rules.specs.History.{session}
use Rattle.session_rules.specs.Steps.{Due, Nothing, Claims, Finishes, due}

-- the version that a message waits for: that of a settle that is not refused
abbrev pub awaited_by : Result Version Refusal → Option Version
awaited_by (Ok version) = Some version
awaited_by (Err reason) = None

-- the version that a message has to wait for
abbrev pub awaited_of : {S : Type 0} → Lang S → Service → Session → Result EditorMessage Refusal
    → Option Version
awaited_of l service s (Ok (asks.Settle id)) = awaited_by (settles l service s id)
awaited_of l service s other = None

-- the version that what is read after a history waits for
abbrev pub awaited : {S : Type 0} → Lang S → Service → List Heard
    → Result EditorMessage Refusal → Option Version
awaited l service h read = awaited_of l service (session l service h) read

-- what is waited for is settled
abbrev pub IsSettledIn : {S : Type 0} → Lang S → Session → Option Version → Type 0
IsSettledIn l s None = ⊤
IsSettledIn l s (Some version) = is_settled l s.events (document l s) version ≡ true

-- a worker's step comes where a message just called for it; or at any other moment, where nothing
-- is called for, by a worker that works as it finds parts ready
abbrev pub IsTurn : Service → Due → ℕ → Due → Type 0
IsTurn service called who step =
    (called ≡ step) ⊎ ((called ≡ Nothing) × (who ≤ free_workers service))

-- the entry may stand after this history
abbrev pub MayFollow : {S : Type 0} → Lang S → Service → List Heard → Heard → Type 0
MayFollow l service h (Message read) =
    (has_ended (session l service h).events ≡ false) × (due l service h ≡ Nothing)
    × IsSettledIn l (session l service h) (awaited l service h read)
MayFollow l service h (Claimed who part) =
    MayWork l (session l service h).events (event.Claimed who part)
    × IsTurn service (due l service h) who (Claims who)
MayFollow l service h (Finished who part) =
    MayWork l (session l service h).events (event.Finished who part)
    × IsTurn service (due l service h) who (Finishes who)
MayFollow l service h (Dropped who part) =
    MayWork l (session l service h).events (event.Dropped who part)
    × IsTurn service (due l service h) who (Finishes who)
MayFollow l service h Ended =
    MayWork l (session l service h).events event.Ended × (due l service h ≡ Nothing)

-- each entry may stand after those before it
abbrev pub IsLegal : {S : Type 0} → Lang S → Service → List Heard → Type 0
IsLegal l service [] = ⊤
IsLegal l service (e ∷ h) = IsLegal l service h × MayFollow l service h e
