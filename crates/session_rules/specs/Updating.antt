-- What the messages that change the document make of a session, or why they are refused (this
-- project's own; refusals stand in the order in which they are tried).
use Rattle.std.specs.Prelude.{ℕ, Bool, nat_lt, if◌then◌else◌, List, length, Result, Ok, Err}
use Rattle.pide_base.specs.Ids.{id_end}
use Rattle.core_tables.specs.declared.versions.Removing.{Removing}
use Rattle.core_tables.specs.declared.versions.Removing.TheVariants as answer
use Rattle.core_tables.specs.Removal.{removing}
use Rattle.language.specs.Lang.{Lang}
use Rattle.message_values.specs.declared.refusal.Refusal.{Refusal}
use Rattle.message_values.specs.declared.refusal.Refusal.TheVariants.{VersionNotHigher, UnknownVersion, TipVersion, UnknownExecution, Limit}
use Rattle.buffer_laws.specs.buffer_rules_below.Trying.{◌>>=◌}
use Rattle.buffer_laws.specs.buffer_rules_below.Updates.{Asked}
use Rattle.buffer_laws.specs.buffer_rules_below.Preparing.{Buffer, prepared}
use Rattle.core_rules.specs.declared.event.Event.TheVariants as event
use Rattle.core_rules.specs.Assigned.{is_assigned}
use Rattle.core_rules.specs.Doc.{Doc, assignment_of}
use Rattle.session_rules.specs.Session.{Session, document, with_event}

-- the update would give an execution an id past the last
abbrev pub runs_out : Doc → Buffer → Bool
runs_out d buffer = nat_lt id_end (assignment_of d buffer.nodes buffer.document.blobs).next

-- the session with a version of what the editor has
abbrev pub with_buffer : Session → ℕ → Buffer → Session
with_buffer s version buffer = with_event (record s { buffer = buffer })
    (event.Update version buffer.nodes buffer.document.blobs)

-- an update: its version is above all before, the editor's document takes it, and ids suffice
abbrev pub updated_session : {S : Type 0} → Lang S → Session → ℕ → Asked → Result Session Refusal
updated_session l s version asked = if nat_lt (document l s).last version
    then (prepared s.buffer (length (document l s).live) asked >>= λ buffer.
    if runs_out (document l s) buffer then Err Limit else Ok (with_buffer s version buffer))
    else Err VersionNotHigher

-- a cancellation names an execution of a live version
abbrev pub cancelled : {S : Type 0} → Lang S → Session → ℕ → Result Session Refusal
cancelled l s exec = if is_assigned (document l s).live exec
    then Ok (with_event s (event.Cancel exec)) else Err UnknownExecution

-- versions are removed where all of them are live, and none is the tip
abbrev pub removed_by : Session → List ℕ → Removing → Result Session Refusal
removed_by s ids answer.Removed = Ok (with_event s (event.Remove ids))
removed_by s ids (answer.Unknown id) = Err UnknownVersion
removed_by s ids answer.Tip = Err TipVersion

-- the session without these versions, or why they can't go
abbrev pub removed : {S : Type 0} → Lang S → Session → List ℕ → Result Session Refusal
removed l s ids = removed_by s ids (removing (document l s).live ids)
