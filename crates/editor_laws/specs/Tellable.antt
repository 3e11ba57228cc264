-- What a language must keep so that replies can tell what it reports (this project's own).
use Rattle.std.specs.Prelude.{◌≡◌, ℕ, length, slice_get, Some}
use Rattle.std.specs.List.{AllByRecursion}
use Rattle.doc_nodes.specs.Imports.{NodeList}
use Rattle.exec_rules.specs.Kept.{BlobList}
use Rattle.language.specs.Lang.{Lang}
use Rattle.language.specs.Laws.{reports_of}
use Rattle.core_rules.specs.Scratch.{scratch_at}
use Rattle.core_rules.specs.Settings.{Setting}
use Rattle.reply_messages.specs.Fits.{IsWide, FitsReport}
use Rattle.editor_laws.specs.Headed.{AreHeaded}
use Rattle.mirror_rules.specs.Telling.{IsTold}

-- an editor can tell from words and reports what it makes; and where headers name identifiers
-- alone, a reply can tell what is reported of each command of a document that is checked from
-- nothing, if the command's source is shorter than 2^64 scalars
pub record IsTellable {S : Type 0} (l : Lang S) : Type 0 where
  pub told : IsTold l
  pub fits : (nodes : NodeList) (blobs : BlobList) (p i : ℕ) (s : Setting S) → AreHeaded nodes
      → slice_get (scratch_at l nodes blobs p) i ≡ Some s → IsWide (length s.source)
      → AllByRecursion FitsReport (reports_of l s.source s.blob s.state)
