-- Theories that have just the facts that commands state (this project's own).
use Rattle.std.specs.Prelude.{◌≡◌, ◌↔◌, ℕ, List, Contains, slice_get, Some}
use Rattle.nj_formula.specs.declared.formula.Formula.{Formula}
use Rattle.shared_map.specs.Pairs.{found}
use Rattle.theory_ctx.specs.declared.fact_name.FactName.{FactName}
use Rattle.theory_ctx.specs.Facts.{Fact}
use Rattle.theory_ctx.specs.Order.{by_name}
use Rattle.doc_nodes.specs.declared.node.Node.{Node}
use Rattle.doc_nodes.specs.Imports.{NodeList}
use Rattle.exec_rules.specs.Kept.{BlobList}
use Rattle.core_rules.specs.Scratch.{scratch_at}
use Rattle.core_rules.specs.Settings.{Setting}
use Rattle.isar_rules.specs.declared.state.State.{State}
use Rattle.isar_rules.specs.Isar.{isar}
use Rattle.isar_rules.specs.Starts.{facts_at}
use Rattle.soundness_laws.specs.Imports.{Needs}
use Rattle.soundness_laws.specs.Stated.{facts_stated}

-- the commands of the node of this name state the formula, as the fact of a name in its theory
abbrev pub IsStatedIn : List ℕ → List (Setting State) → FactName → Formula → Type 0
IsStatedIn node commands fact f =
    (fact.theory ≡ node) × Contains (facts_stated commands) (fact.name, f)

-- the node at a place states it, or one of its imports, direct or not
pub record IsStatedFrom (nodes : NodeList) (blobs : BlobList) (p : ℕ) (fact : FactName)
    (f : Formula) : Type 0 where
  pub place : ℕ
  pub pair : List ℕ × Node
  pub needed : Needs nodes p place
  pub stands : slice_get nodes place ≡ Some pair
  pub stated : IsStatedIn pair.0 (scratch_at isar nodes blobs place) fact f

-- the state is in a theory or behind its end, and the formulas that are found in it by the names of
-- facts are just those of which P holds
pub record IsTheoryOf (P : FactName → Formula → Type 0) (state : State) : Type 0 where
  pub facts : List Fact
  pub has_them : facts_at state.place ≡ Some facts
  pub just : (fact : FactName) (f : Formula) → (found by_name fact facts ≡ Some f) ↔ P fact f
