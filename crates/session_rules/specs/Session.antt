-- What a session has (the document as in Wenzel, ITP 2014; the rest is this project's own).
use Rattle.std.specs.Prelude.{Bool, true, false, List, [], ◌∷◌, Result, Ok, Err}
use Rattle.language.specs.Lang.{Lang}
use Rattle.message_values.specs.declared.protocol.Protocol.{Protocol}
use Rattle.message_values.specs.declared.protocol.Protocol.TheVariants.{Scalars}
use Rattle.message_values.specs.declared.refusal.Refusal.{Refusal}
use Rattle.buffer_laws.specs.buffer_rules_below.Preparing.{Buffer}
use Rattle.buffer_laws.specs.buffer_rules_below.Preparing as buffer
use Rattle.core_rules.specs.declared.event.Event.{Event}
use Rattle.core_rules.specs.Doc.{Doc, doc}

-- the editor's document; what happened to executions, the newest first; the protocol; and whether
-- a message came
pub record Session : Type 0 where
  pub buffer : Buffer
  pub events : List Event
  pub protocol : Protocol
  pub called : Bool

-- before anything happened
abbrev pub empty_session : Session
empty_session =
    record { buffer = buffer.empty_buffer; events = []; protocol = Scalars; called = false }

-- the versions and the executions
abbrev pub document : {S : Type 0} → Lang S → Session → Doc
document l s = doc l s.events

-- one event more
abbrev pub with_event : Session → Event → Session
with_event s event = record s { events = event ∷ s.events }

-- after a message: a refused one changes nothing but that a message came
abbrev pub answered : Session → Result Session Refusal → Session
answered s (Ok after) = record after { called = true }
answered s (Err reason) = record s { called = true }
