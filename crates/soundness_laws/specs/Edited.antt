-- A node of a document as it is checked from nothing, before and after an edit (this project's own).
use Rattle.std.specs.Prelude.{◌≡◌, ◌==◌, ℕ, List, find, Some}
use Rattle.doc_nodes.specs.Imports.{NodeList}
use Rattle.exec_rules.specs.Kept.{BlobList}
use Rattle.core_rules.specs.Scratch.{Run, scratch}
use Rattle.isar_rules.specs.declared.state.State.{State}
use Rattle.isar_rules.specs.Isar.{isar}
use Rattle.soundness_laws.specs.Suggesting.{IsTaken}

-- the node at a place comes to this, with its imports, when the nodes are checked from nothing
abbrev pub NodeComesTo : NodeList → BlobList → ℕ → Run State → Type 0
NodeComesTo nodes blobs p run = find (λ one. one.0 == p) (scratch isar nodes blobs) ≡ Some (p, run)

-- so after an edit, where the text is put in as a proof behind the command of that number
pub record IsTakenAt (nodes : NodeList) (blobs : BlobList) (p : ℕ) (old : Run State)
    (before after text : List ℕ) (k : ℕ) : Type 0 where
  pub new : Run State
  pub comes : NodeComesTo nodes blobs p new
  pub taken : IsTaken old new before after text k
