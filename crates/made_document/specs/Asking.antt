-- Which bytes ask messages (this project's own).
use Rattle.std.specs.Prelude.{◌≡◌, ℕ, List, ◌++◌, map, Ok}
use Rattle.byte_message.specs.Stream.{IsMessage, IsReadAs, plain_spelling}
use Rattle.byte_message.specs.Stream.Ending.{Whole}
use Rattle.message_values.specs.declared.editor_message.EditorMessage.{EditorMessage}
use Rattle.message_values.specs.declared.mode.Mode.{Mode}
use Rattle.message_values.specs.Asked.{asked}

-- the bytes are whole byte messages that ask these, one after the other
pub record Ask (mode : Mode) (bytes : List ℕ) (messages : List EditorMessage) : Type 0 where
  pub chunks : List (List (List ℕ))
  pub read : IsReadAs bytes chunks Whole
  pub asks : map (asked mode) chunks ≡ map (λ message. Ok message) messages

-- bytes grew by a message that asks this
pub record Adds (mode : Mode) (old new : List ℕ) (message : EditorMessage) : Type 0 where
  pub chunks : List (List ℕ)
  pub fit : IsMessage chunks
  pub bytes : new ≡ old ++ plain_spelling chunks
  pub asks : asked mode chunks ≡ Ok message
