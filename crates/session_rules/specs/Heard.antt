-- The entries of a history, with messages as they are read (this project's own).
use Rattle.std.specs.Prelude.{ℕ, List, map, Result}
use Rattle.pide_base.specs.declared.part.Part.{Part}
use Rattle.message_values.specs.declared.editor_message.EditorMessage.{EditorMessage}
use Rattle.message_values.specs.declared.refusal.Refusal.{Refusal}
use Rattle.message_values.specs.Asked.{asked}
use Rattle.session_rules.specs.declared.entry.Entry.{Entry}
use Rattle.session_rules.specs.declared.entry.Entry.TheVariants as entry
use Rattle.session_rules.specs.declared.service.Service.{Service}
use Rattle.session_rules.specs.Services.{mode_of}

-- an entry: what a message asks or why its chunks are refused; what a worker did; the end
pub data Heard : Type 0 where
  Message : Result EditorMessage Refusal → Heard
  Claimed : ℕ → Part → Heard
  Finished : ℕ → Part → Heard
  Dropped : ℕ → Part → Heard
  Ended : Heard

-- an entry, read with the functions that the service has
abbrev pub heard : Service → Entry → Heard
heard service (entry.Call chunks) = Message (asked (mode_of service) chunks)
heard service (entry.Claimed who part) = Claimed who part
heard service (entry.Finished who part) = Finished who part
heard service (entry.Dropped who part) = Dropped who part
heard service entry.Ended = Ended

-- a history, read so
abbrev pub all_heard : Service → List Entry → List Heard
all_heard service history = map (heard service) history
