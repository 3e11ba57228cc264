-- Which entry a message calls for (this project's own).
use Rattle.std.specs.Prelude.{ℕ, List, ◌∷◌, Result, Ok, Err}
use Rattle.language.specs.Lang.{Lang}
use Rattle.message_values.specs.declared.editor_message.EditorMessage.{EditorMessage}
use Rattle.message_values.specs.declared.editor_message.EditorMessage.TheVariants as asks
use Rattle.message_values.specs.declared.refusal.Refusal.{Refusal}
use Rattle.session_rules.specs.declared.service.Service.{Service}
use Rattle.session_rules.specs.Heard.{Heard, Message}
use Rattle.session_rules.specs.Session.{Session}
use Rattle.session_rules.specs.Accepting.{accepted}
use Rattle.session_rules.specs.History.{session}

-- what is due: nothing, that a worker takes a part, or that it finishes or lets go what it holds
pub data Due : Type 0 where
  Nothing : Due
  Claims : ℕ → Due
  Finishes : ℕ → Due

-- what a message calls for
abbrev pub called_for : EditorMessage → Due
called_for (asks.Claim w) = Claims w
called_for (asks.Finish w) = Finishes w
called_for message = Nothing

-- unless it is refused
abbrev pub due_by : Result Session Refusal → Due → Due
due_by (Ok after) due = due
due_by (Err reason) due = Nothing

-- so for what was read
abbrev pub due_of : {S : Type 0} → Lang S → Service → Session → Result EditorMessage Refusal → Due
due_of l service s (Ok message) = due_by (accepted l service s message) (called_for message)
due_of l service s (Err reason) = Nothing

-- what is due just after a history: only its newest entry calls for anything
abbrev pub due : {S : Type 0} → Lang S → Service → List Heard → Due
due l service (Message read ∷ h) = due_of l service (session l service h) read
due l service h = Nothing
