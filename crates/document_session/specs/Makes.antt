-- Versions that are prepared (this project's own).
use Rattle.std.specs.Prelude.{◌≡◌, ℕ, ◌<◌, length, Result, Ok}
use Rattle.language.specs.Lang.{Lang}
use Rattle.message_values.specs.declared.editor_message.EditorMessage.{EditorMessage}
use Rattle.message_values.specs.declared.editor_message.EditorMessage.TheVariants as asks
use Rattle.message_values.specs.declared.refusal.Refusal.{Refusal}
use Rattle.buffer_rules.specs.Updates.{Asked}
use Rattle.buffer_rules.specs.Preparing.{prepared}
use Rattle.editor_buffer.specs.NameSets.{AreChanged}
use Rattle.buffer_rules.specs.Nodes.{AreKept}
use Rattle.editor_buffer.specs.Preparation.{Preparation}
use Rattle.session_rules.specs.Session.{Session, document}

-- what was read asks for a version of this id, which is above all before, and this is what the
-- editor's document prepares for it
pub record IsMade {S : Type 0} (l : Lang S) (s : Session) (id : ℕ)
    (read : Result EditorMessage Refusal) (made : Preparation) : Type 0 where
  pub wanted : Asked
  pub asks_it : read ≡ Ok (asks.Update id wanted.items wanted.blobs)
  pub newer : (document l s).last < id
  pub after : prepared s.buffer (length (document l s).live) wanted ≡ Ok made.after
  pub kept : AreKept s.buffer.nodes made.untouched made.after.nodes
  pub changed : AreChanged made.changed s.buffer.document.blobs made.after.document.blobs
