-- The history that one thread makes of messages (this project's own).
use Rattle.std.specs.Prelude.{ℕ, zero, suc, Bool, if◌then◌else◌, List, [], ◌∷◌, length, Option, Some, None, Result}
use Rattle.pide_base.specs.declared.part.Part.{Part}
use Rattle.exec_rules.specs.declared.version.Version.{Version}
use Rattle.language.specs.Lang.{Lang}
use Rattle.message_values.specs.declared.editor_message.EditorMessage.{EditorMessage}
use Rattle.message_values.specs.declared.refusal.Refusal.{Refusal}
use Rattle.core_rules.specs.Ready.{all_parts, first_ready, is_wanted}
use Rattle.core_rules.specs.Standing.{held}
use Rattle.core_rules.specs.Stuck.{is_settled}
use Rattle.session_rules.specs.declared.service.Service.{Service}
use Rattle.session_rules.specs.Heard.{Heard, Message, Claimed, Finished, Dropped}
use Rattle.session_rules.specs.Session.{Session, document}
use Rattle.session_rules.specs.History.{session}
use Rattle.session_rules.specs.Legal.{awaited}
use Rattle.session_rules.specs.Steps.{Due, Nothing, Claims, Finishes, due}

-- what is read of the messages of a history, the newest first
abbrev pub reads : List Heard → List (Result EditorMessage Refusal)
reads [] = []
reads (Message read ∷ h) = read ∷ reads h
reads (other ∷ h) = reads h

-- the reader takes the part, where there is one, and finishes it at once
abbrev pub worked_by : List Heard → Option Part → List Heard
worked_by h None = h
worked_by h (Some part) = Finished 0 part ∷ Claimed 0 part ∷ h

-- the version is settled
abbrev pub is_settled_in : {S : Type 0} → Lang S → Session → Version → Bool
is_settled_in l s version = is_settled l s.events (document l s) version

-- the reader works while the version isn't settled, and takes at most so many parts
abbrev pub worked_until : {S : Type 0} → Lang S → Service → Version → ℕ → List Heard → List Heard
worked_until l service version zero h = h
worked_until l service version (suc n) h =
    if is_settled_in l (session l service (worked_until l service version n h)) version
    then worked_until l service version n h
    else worked_by (worked_until l service version n h)
    (first_ready l (session l service (worked_until l service version n h)).events)

-- before a message is answered: until what it waits for is settled, of all parts that there are
abbrev pub worked_for : {S : Type 0} → Lang S → Service → Option Version → List Heard → List Heard
worked_for l service None h = h
worked_for l service (Some version) h = worked_until l service version
    (length (all_parts l (document l (session l service h)).homes)) h

-- a worker takes the first ready part
abbrev pub claimed_by : ℕ → List Heard → Option Part → List Heard
claimed_by who h None = h
claimed_by who h (Some part) = Claimed who part ∷ h

-- it finishes what it holds where that is wanted, else it lets it go
abbrev pub ended_by : {S : Type 0} → Lang S → Session → ℕ → List Heard → Option Part → List Heard
ended_by l s who h None = h
ended_by l s who h (Some part) =
    (if is_wanted (document l s) part.exec then Finished who part else Dropped who part) ∷ h

-- what is due is done
abbrev pub stepped : {S : Type 0} → Lang S → Service → Due → List Heard → List Heard
stepped l service Nothing h = h
stepped l service (Claims who) h =
    claimed_by who h (first_ready l (session l service h).events)
stepped l service (Finishes who) h = ended_by l (session l service h) who h
    (held (session l service h).events who)

-- the newest message behind the parts that are worked on for it, after this history
abbrev pub with_message : {S : Type 0} → Lang S → Service → Result EditorMessage Refusal
    → List Heard → List Heard
with_message l service read h =
    Message read ∷ worked_for l service (awaited l service h read) h

-- the history of these messages, the newest first
abbrev pub thread : {S : Type 0} → Lang S → Service → List (Result EditorMessage Refusal)
    → List Heard
thread l service [] = []
thread l service (read ∷ rest) =
    stepped l service (due l service (with_message l service read (thread l service rest)))
    (with_message l service read (thread l service rest))
