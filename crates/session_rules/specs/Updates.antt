-- Two updates and a settle, and the document that they make (this project's own).
use Rattle.std.specs.Prelude.{ℕ, List, [], ◌∷◌, map, Result, Ok}
use Rattle.language.specs.Lang.{Lang}
use Rattle.message_values.specs.declared.editor_message.EditorMessage.{EditorMessage}
use Rattle.message_values.specs.declared.editor_message.EditorMessage.TheVariants as asks
use Rattle.message_values.specs.declared.refusal.Refusal.{Refusal}
use Rattle.buffer_laws.specs.buffer_rules_below.Updates.{Asked}
use Rattle.core_rules.specs.Doc.{Doc}
use Rattle.session_rules.specs.declared.service.Service.TheVariants.{Workers}
use Rattle.session_rules.specs.Heard.{Message}
use Rattle.session_rules.specs.Session.{document}
use Rattle.session_rules.specs.History.{session}

-- two updates: the version that each is to make, and what it asks
pub record Updates : Type 0 where
  pub first : ℕ
  pub first_asked : Asked
  pub second : ℕ
  pub second_asked : Asked

-- an update that is read
abbrev pub update_read : ℕ → Asked → Result EditorMessage Refusal
update_read version asked = Ok (asks.Update version asked.items asked.blobs)

-- both, the newest first
abbrev pub updates_read : Updates → List (Result EditorMessage Refusal)
updates_read u = update_read u.second u.second_asked ∷ update_read u.first u.first_asked ∷ []

-- behind them a settle of the second's version
abbrev pub all_read : Updates → List (Result EditorMessage Refusal)
all_read u = Ok (asks.Settle u.second) ∷ updates_read u

-- the document after the updates, where nobody works
abbrev pub document_of : {S : Type 0} → Lang S → Updates → Doc
document_of l u = document l (session l (Workers 0) (map Message (updates_read u)))
