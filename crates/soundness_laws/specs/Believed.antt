-- What an editor may believe of the nodes of a version (natural deduction, Gentzen 1935).
use Rattle.std.specs.Prelude.{◌≡◌, ℕ, Some}
use Rattle.doc_nodes.specs.Imports.{NodeList}
use Rattle.exec_rules.specs.Kept.{BlobList}
use Rattle.core_rules.specs.Scratch.{final_at, scratch}
use Rattle.isar_rules.specs.declared.state.State.{State}
use Rattle.isar_rules.specs.Isar.{isar}
use Rattle.soundness_laws.specs.Facts.{FactsFollow}
use Rattle.soundness_laws.specs.Imports.{IsAxiomFrom}
use Rattle.soundness_laws.specs.Theories.{IsStatedFrom, IsTheoryOf}

-- the theory that the node at a place comes to when all nodes are checked from nothing: each of its
-- facts is derived from finitely many axioms of this node and its imports, direct or not
pub record IsSoundAt (nodes : NodeList) (blobs : BlobList) (p : ℕ) : Type 0 where
  pub behind : State
  pub comes_to : final_at isar (scratch isar nodes blobs) p ≡ Some behind
  pub follows : FactsFollow (IsAxiomFrom nodes blobs p) behind

-- the theory that it comes to has just the facts that the commands of this node and its imports,
-- direct or not, state
pub record IsTheoryAt (nodes : NodeList) (blobs : BlobList) (p : ℕ) : Type 0 where
  pub behind : State
  pub comes_to : final_at isar (scratch isar nodes blobs) p ≡ Some behind
  pub is_theory : IsTheoryOf (IsStatedFrom nodes blobs p) behind
