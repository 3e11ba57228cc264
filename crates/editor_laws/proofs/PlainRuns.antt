-- Along what is checked from nothing, each command stands at a plain place.
use Rattle.std.proofs.Common.{ℕ, zero, suc, ◌==◌, Bool, true, false, cond, List, [], ◌∷◌, Option}
use Rattle.std.proofs.Common.{Some, None, IfSome}
use Rattle.std.specs.Prelude.{find, slice_get}
use Rattle.std.specs.Option.{option_map_or}
use Rattle.std.specs.List.{AllByRecursion}
use Rattle.doc_nodes.specs.declared.node.Entry.{Entry}
use Rattle.doc_nodes.specs.declared.node.Node.{Node}
use Rattle.doc_nodes.specs.Imports.{NodeList, is_bad, order}
use Rattle.exec_rules.specs.Kept.{BlobList}
use Rattle.core_rules.specs.Settings.{state_behind}
use Rattle.core_rules.specs.Scratch.{Run, Runs, set_in, run_from, state_after, begins_at, run_node}
use Rattle.core_rules.specs.Scratch.{run_one, run_all, scratch, scratch_at}
use Rattle.isar_rules.specs.declared.state.State.{State}
use Rattle.isar_rules.specs.Isar.{isar}
use Rattle.editor_laws.specs.Headed.{AreNamed, AreHeaded}
use Rattle.editor_laws.proofs.HeaderNames.{HeaderLaw}
use Rattle.editor_laws.proofs.PlainAliases.{bad_plain}
use Rattle.editor_laws.proofs.PlainStates.{PlacePlain}
use Rattle.editor_laws.proofs.PlainSteps.{step_plain}
use Rattle.editor_laws.proofs.PlainImports.{SettingPlain, IsPlainRun, RunPlain, bad_import}
use Rattle.editor_laws.proofs.PlainImports.{from_plain}

module _ (law : HeaderLaw) where
  run_plain : (node : Node) (blobs : BlobList) (entries : List Entry) (state : State)
      → PlacePlain state.place
      → AllByRecursion SettingPlain (run_from isar node blobs entries state) × PlacePlain
      (state_after isar state (run_from isar node blobs entries state)).place
  run_plain node blobs [] state plain = (tt, plain)
  run_plain node blobs (e ∷ es) state plain =
      let s = set_in node blobs e state in
      let more = run_plain node blobs es (state_behind isar s)
      (step_plain law s.source s.blob state plain).behind in
      ((plain, more.0), more.1)

  one_plain : (nodes : NodeList) (blobs : BlobList) (runs : Runs State) (p : ℕ)
      (pair : List ℕ × Node) → AreHeaded nodes → AreNamed pair.1.imports pair.1.keywords
      → AllByRecursion RunPlain runs
      → IsPlainRun (run_node isar pair.1 blobs (begins_at isar nodes runs p pair))
  one_plain nodes blobs runs p pair headed own all =
      let is = run_plain pair.1 blobs pair.1.entries (begins_at isar nodes runs p pair) (
        from_plain nodes runs pair.1 own all (find (is_bad nodes) pair.1.imports)
            (bad_import (is_bad nodes) pair.1.imports own.imports_are),
        bad_plain nodes p headed,
      ) in
      record { commands = is.0; behind = is.1 }

  headed_at : (nodes : NodeList) (p : ℕ) → AreHeaded nodes
      → IfSome (slice_get nodes p) (λ pair. AreNamed pair.1.imports pair.1.keywords)
  headed_at [] p headed = tt
  headed_at (pair ∷ nodes) zero headed = headed.0
  headed_at (pair ∷ nodes) (suc p) headed = headed_at nodes p headed.1

  all_plain : (nodes : NodeList) (blobs : BlobList) → AreHeaded nodes
      → (ps : List ℕ) (runs : Runs State) → AllByRecursion RunPlain runs
      → AllByRecursion RunPlain (run_all isar nodes blobs ps runs)
  all_plain nodes blobs headed [] runs all = all
  all_plain nodes blobs headed (p ∷ ps) runs all =
      all_plain nodes blobs headed ps (run_one isar nodes blobs runs p)
      (go (slice_get nodes p) (headed_at nodes p headed))
    where
      go : (o : Option (List ℕ × Node)) → IfSome o (λ pair. AreNamed pair.1.imports pair.1.keywords)
          → AllByRecursion RunPlain
          (option_map_or
          (λ pair. (
            p,
            run_node isar pair.1 blobs (begins_at isar nodes runs p pair),
          ) ∷ runs) o runs)
      go None own = all
      go (Some pair) own = (one_plain nodes blobs runs p pair headed own all, all)

  commands_at : (runs : Runs State) (p : ℕ) → AllByRecursion RunPlain runs
      → AllByRecursion SettingPlain
      (option_map_or (λ (one : ℕ × Run State). one.1.commands) (find (λ one. one.0 == p) runs) [])
  commands_at [] p all = tt
  commands_at (one ∷ runs) p all = go (one.0 == p) (commands_at runs p all.1)
    where
      go : (b : Bool)
          → AllByRecursion SettingPlain
          (option_map_or (λ (one : ℕ × Run State). one.1.commands)
          (find (λ one. one.0 == p) runs) [])
          → AllByRecursion SettingPlain
          (option_map_or (λ (one : ℕ × Run State). one.1.commands)
          (cond b (Some one) (find (λ one. one.0 == p) runs)) [])
      go true more = all.0.commands
      go false more = more

  pub scratch_plain : (nodes : NodeList) (blobs : BlobList) (p : ℕ) → AreHeaded nodes
      → AllByRecursion SettingPlain (scratch_at isar nodes blobs p)
  scratch_plain nodes blobs p headed =
      commands_at (scratch isar nodes blobs) p (all_plain nodes blobs headed (order nodes) [] tt)
