-- Where all of a node and of its imports is checked, and no error is shown, it comes to a theory of
-- just what they state.
use Rattle.std.proofs.Common.{◌≡◌, ℕ, ◌<◌, ◌==◌, List, [], length, Some, ap, sym, subst, ◌∙◌, arith}
use Rattle.std.proofs.lemmas.Bool.{eqb-true}
use Rattle.std.specs.Prelude.{slice_get}
use Rattle.std.specs.Option.{option_map, option_map_or}
use Rattle.doc_nodes.specs.declared.node.Node.{Node}
use Rattle.doc_nodes.specs.Imports.{order, place_of}
use Rattle.core_tables.specs.declared.versions.Live.{Live}
use Rattle.exec_rules.specs.declared.version.Version.{Version}
use Rattle.exec_rules.specs.Assigning.{entries_at, entries_in}
use Rattle.core_rules.specs.declared.event.Event.{Event}
use Rattle.core_rules.specs.Doc.{doc}
use Rattle.core_rules.specs.Legal.{IsLegal}
use Rattle.core_rules.specs.Scratch.{Run, final, scratch}
use Rattle.isar_rules.specs.declared.state.State.{State}
use Rattle.isar_rules.specs.Isar.{isar}
use Rattle.soundness_laws.specs.Imports.{AreCleanFrom}
use Rattle.soundness_laws.specs.Theories.{IsStatedFrom, IsTheoryOf}
use Rattle.soundness_laws.specs.Believed.{IsTheoryAt}
use Rattle.soundness_laws.specs.Seen.{IsQuiet, OfEachNeeded}
use Rattle.soundness_laws.proofs.Believing.{Laws, clean_from, length_run, run_at}
use Rattle.soundness_laws.proofs.ScratchRuns.{IsRunOf, all_run, found_of}
use Rattle.soundness_laws.proofs.TextTheories.{IsJust, Just}

module _ (laws : Laws) (just : Just) (h : List Event) (legal : IsLegal isar h) (k : ℕ) (live : Live Version) (at : slice_get (doc isar h).live k ≡ Some live) where
  abbrev v : Version
  v = live.version

  -- a node with commands was run with commands
  some_run : (name : List ℕ) (p : ℕ) (one : ℕ × Run State) → IsRunOf isar v.nodes v.blobs (order v.nodes) (scratch isar v.nodes v.blobs) one → one.0 ≡ p
      → place_of v.nodes name ≡ Some p → 0 < length (entries_in v name) → 0 < length one.1.commands
  some_run name p one is same place some =
      let entries : entries_in v name ≡ is.pair.1.entries =
      ap (λ o. option_map_or (entries_at v.nodes) o []) place ∙ ap (entries_at v.nodes) (sym same)
      ∙ ap (λ o. option_map_or (λ (pair : List ℕ × Node). pair.1.entries) o []) is.stands in
      omega (arith, some, ap length entries, ap (λ (r : Run State). length r.commands) is.run, length_run is.pair.1 v.blobs is.pair.1.entries is.begins)

  pub theory_at : (name : List ℕ) (p : ℕ) → place_of v.nodes name ≡ Some p → OfEachNeeded (IsQuiet h v) v p → 0 < length (entries_in v name) → IsTheoryAt v.nodes v.blobs p
  theory_at name p place quiet some =
      let here = run_at laws h legal k live at name p place in
      let good = found_of (IsJust v.nodes v.blobs) (λ one. one.0 == p) (scratch isar v.nodes v.blobs) here.0 (just v.nodes v.blobs) here.1 in
      let run = found_of (IsRunOf isar v.nodes v.blobs (order v.nodes) (scratch isar v.nodes v.blobs)) (λ one. one.0 == p) (scratch isar v.nodes v.blobs) here.0
      (all_run isar v.nodes v.blobs (laws.every v.nodes) (laws.once v.nodes)).each here.1 in
      let same : here.0.0 ≡ p = eqb-true here.0.0 p good.0 in
      let clean = subst (AreCleanFrom v.nodes v.blobs) (sym same) (clean_from laws h legal k live at name p place quiet) in
      record {
        behind = final isar here.0.1;
        comes_to = ap (option_map (λ (one : ℕ × Run State). final isar one.1)) here.1;
        is_theory = subst (λ q. IsTheoryOf (IsStatedFrom v.nodes v.blobs q) (final isar here.0.1)) same (good.1 clean (some_run name p here.0 run.1 same place some));
      }
