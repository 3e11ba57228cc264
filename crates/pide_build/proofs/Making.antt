-- What comes of a node is what comes of it once all nodes are cut.
use Rattle.std.proofs.Common.{◌≡◌, ℕ, List, [], find, IfOk, Option, Some, Result, Ok, sym, ap, ap₂, subst, ◌∙◌}
use Rattle.std.specs.Prelude.{slice_get}
use Rattle.report_markup.specs.declared.report.Report.{Report}
use Rattle.report_markup.specs.Sorting.{ordered_reports}
use Rattle.doc_nodes.specs.declared.node.Node.{Node}
use Rattle.doc_nodes.specs.Aliases.{aliases_at}
use Rattle.doc_nodes.specs.Imports.{NodeList, is_bad}
use Rattle.doc_nodes.specs.Needs.{AliasList}
use Rattle.language.specs.Lang.{Lang}
use Rattle.core_rules.specs.Scratch.{Runs, begins_at, final, imports_run, run_node}
use Rattle.node_check.specs.declared.commands.NodeRun.{NodeRun}
use Rattle.node_check.specs.Nodes.{cut_under, reports_of}
use Rattle.pide_build.specs.Handed.{AreBehind}
use Rattle.doc_nodes.proofs.KnownHeads.{along}
use Rattle.pide_build.proofs.KnownBegins.{begins_head}
use Rattle.pide_build.specs.declared.telling.BuiltNode.{BuiltNode}
use Rattle.pide_build.specs.declared.telling.Checked.{Checked}
use Rattle.pide_build.specs.Cutting.{AreUncut, cut_all}
use Rattle.pide_build.specs.Tasks.{MakesSo, built_by}
use Rattle.pide_build.proofs.KnownCut.{cut_there, heads_are, imports_are}

pub only_one : {X : Type 0} {x y : X} → Some x ≡ Some y → x ≡ y
only_one e = cc

-- what holds of an answer's value
pub of_ok : {X E : Type 0} (P : X → Type 0) (r : Result X E) (x : X) → r ≡ Ok x → IfOk r P → P x
of_ok P r x is holds = subst (λ s. IfOk s P) is holds

pub only_ok : {X E : Type 0} {x y : X} → ◌≡◌ {A = Result X E} (Ok x) (Ok y) → y ≡ x
only_ok e = cc

module _ {S : Type 0} (l : Lang S) (node : Node) where
  -- what its commands report under these aliases, and the state behind them
  abbrev pub reported : S → AliasList → ℕ → List Report
  reported begins pairs next =
      let one = cut_under node pairs next in ordered_reports
      (reports_of l one.entries (run_node l one [] begins).commands)

  abbrev pub handed_on : S → AliasList → ℕ → S
  handed_on begins pairs next = final l (run_node l (cut_under node pairs next) [] begins)

module _ {S M : Type 0} (l : Lang S) (told : BuiltNode → M) (nodes : NodeList) (uncut : AreUncut nodes) (behind : List (Option S)) (p : ℕ)
    (name : List ℕ) (node : Node) (here : slice_get nodes p ≡ Some (name, node)) where
  -- the node, once it is cut
  abbrev now : ℕ → Node
  now first = cut_under node (aliases_at nodes p).pairs first

  module _ (runs : Runs S) (pair : List ℕ × Node) (at : slice_get (cut_all nodes) p ≡ Some pair) where
    abbrev first : ℕ
    first = (cut_there nodes uncut p (name, node) pair here at).0

    is : pair ≡ (name, now first)
    is = (cut_there nodes uncut p (name, node) pair here at).1

    abbrev begins_by : List (List ℕ) → S
    begins_by imports = l.start name (imports_run l nodes runs imports (find (is_bad nodes) imports)) (aliases_at nodes p)

    -- it begins as before
    begins_so : begins_at l nodes runs p (name, node) ≡ begins_at l (cut_all nodes) runs p pair
    begins_so = ap begins_by (imports_are nodes uncut p (name, node) here) ∙ ap (begins_at l nodes runs p) (sym is)
        ∙ along (λ ns. begins_at l ns runs p pair) (begins_head l runs p pair) nodes (cut_all nodes) (heads_are nodes uncut)

  pub makes : (begins : S) → ((runs : Runs S) (pair : List ℕ × Node) → AreBehind l runs behind → slice_get nodes p ≡ Some pair → begins ≡ begins_at l nodes runs p pair)
      → (pairs : AliasList) → pairs ≡ (aliases_at nodes p).pairs → (run : NodeRun S) → ((next : ℕ) → run.reports.items ≡ reported l node begins pairs next)
      → ((next : ℕ) → run.behind ≡ handed_on l node begins pairs next) → (made : Checked M S) → made.behind ≡ run.behind
      → made.told ≡ told (record { node = name; reports = run.reports.items }) → MakesSo l told (cut_all nodes) behind p made
  makes begins begun pairs pairs_are run run_reports run_behind made made_behind told_is runs pair kept at =
      let next = first runs pair at in
      let reports_are = run_reports next ∙ ap (λ ps. reported l node begins ps next) pairs_are in
      let behind_is = made_behind ∙ run_behind next ∙ ap (λ ps. handed_on l node begins ps next) pairs_are in
      let same : begins ≡ begins_at l (cut_all nodes) runs p pair = begun runs (name, node) kept here ∙ begins_so runs pair at in
      let outcome : List ℕ × Node → S → BuiltNode = λ one state. built_by l one (run_node l one.1 [] state) in
      let after : List ℕ × Node → S → S = λ one state. final l (run_node l one.1 [] state) in
      record {
        told_is = told_is ∙ ap told (ap (λ (rs : List Report). record { node = name; reports = rs }) reports_are
            ∙ ap₂ outcome (sym (is runs pair at)) same);
        behind = behind_is ∙ ap₂ after (sym (is runs pair at)) same;
      }
