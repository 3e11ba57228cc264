-- What the commands of a node are run in when a version is checked from nothing.
use Rattle.std.proofs.Common.{◌≡◌, ℕ, Bool, true, false, cond, List, [], ◌∷◌, find, Option, Some, None, refl, ap, sym, subst, ◌∙◌}
use Rattle.std.proofs.lemmas.Bool.{eqb-true}
use Rattle.std.specs.Prelude.{◌==◌, slice_get}
use Rattle.std.specs.Option.{option_map_or}
use Rattle.std.specs.List.{AllByRecursion}
use Rattle.doc_nodes.specs.declared.node.Node.{Node}
use Rattle.doc_nodes.specs.Imports.{NodeList, order}
use Rattle.exec_rules.specs.Kept.{BlobList}
use Rattle.language.specs.Lang.{Lang}
use Rattle.core_rules.specs.Settings.{Setting}
use Rattle.core_rules.specs.Scratch.{Run, Runs, run_from, begins_at, run_node, run_one, run_all, scratch, scratch_at}

module _ {S : Type 0} (l : Lang S) (nodes : NodeList) (blobs : BlobList) where
  -- a node that was run
  record IsRun (one : ℕ × Run S) : Type 0 where
    pub pair : List ℕ × Node
    pub stands : slice_get nodes one.0 ≡ Some pair
    pub commands : one.1.commands ≡ run_from l pair.1 blobs pair.1.entries one.1.begins

  AreRuns : Runs S → Type 0
  AreRuns runs = AllByRecursion IsRun runs

  one_more : (runs : Runs S) (p : ℕ) → AreRuns runs → AreRuns (run_one l nodes blobs runs p)
  unfolding AreRuns
  one_more runs p are = go (slice_get nodes p) refl
    where
      go : (o : Option (List ℕ × Node)) → slice_get nodes p ≡ o
          → AllByRecursion IsRun (option_map_or (λ (pair : List ℕ × Node). (p, run_node l pair.1 blobs (begins_at l nodes runs p pair)) ∷ runs) o runs)
      go None e = are
      go (Some pair) e = (record { pair = pair; stands = e; commands = refl }, are)

  all_more : (ps : List ℕ) (runs : Runs S) → AreRuns runs → AreRuns (run_all l nodes blobs ps runs)
  all_more [] runs are = are
  all_more (p ∷ ps) runs are = all_more ps (run_one l nodes blobs runs p) (one_more runs p are)

  -- what is found among them, if anything
  found_run : (p : ℕ) (runs : Runs S) → AreRuns runs → (one : ℕ × Run S) → find (λ x. x.0 == p) runs ≡ Some one
      → IsRun one × (one.0 ≡ p)
  unfolding AreRuns
  found_run p [] are one at = absurd (cc)
  found_run p (x ∷ runs) are one at = go (x.0 == p) refl at (found_run p runs are.1 one)
    where
      go : (b : Bool) → (x.0 == p) ≡ b → cond b (Some x) (find (λ y. y.0 == p) runs) ≡ Some one
          → (find (λ y. y.0 == p) runs ≡ Some one → IsRun one × (one.0 ≡ p)) → IsRun one × (one.0 ≡ p)
      go true e at rest = let same : x ≡ one = cc in
          (subst IsRun same are.0, ap (λ (y : ℕ × Run S). y.0) (sym same) ∙ eqb-true x.0 p e)
      go false e at rest = rest at

  -- what the commands of the node at a place are run in: nothing, or the states one after the other
  pub data RunSo (node : Node) (settings : List (Setting S)) : Type 0 where
    Unrun : settings ≡ [] → RunSo node settings
    RunFrom : (state : S) → settings ≡ run_from l node blobs node.entries state → RunSo node settings

  pub run_so : (p : ℕ) (pair : List ℕ × Node) → slice_get nodes p ≡ Some pair → RunSo pair.1 (scratch_at l nodes blobs p)
  unfolding AreRuns
  run_so p pair at = go (find (λ x. x.0 == p) (scratch l nodes blobs)) refl
    where
      go : (o : Option (ℕ × Run S)) → find (λ x. x.0 == p) (scratch l nodes blobs) ≡ o
          → RunSo pair.1 (option_map_or (λ (x : ℕ × Run S). x.1.commands) o [])
      go None e = Unrun refl
      go (Some one) e =
          let found = found_run p (scratch l nodes blobs) (all_more (order nodes) [] tt) one e in
          let there : slice_get nodes p ≡ Some found.0.pair = ap (slice_get nodes) (sym found.1) ∙ found.0.stands in
          let same : found.0.pair ≡ pair = cc in
          RunFrom one.1.begins (found.0.commands ∙ ap (λ (x : List ℕ × Node). run_from l x.1 blobs x.1.entries one.1.begins) same)
