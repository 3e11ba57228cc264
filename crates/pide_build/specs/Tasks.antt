-- What the nodes of a batch ask for, and what they make (this project's own).
use Rattle.std.specs.Prelude.{◌≡◌, ℕ, ◌<◌, List, [], length, slice_get, Option, Some}
use Rattle.std.specs.List.{All}
use Rattle.report_markup.specs.Sorting.{ordered_reports}
use Rattle.doc_nodes.specs.declared.node.Node.{Node}
use Rattle.doc_nodes.specs.declared.inherited.NodeAliases.{NodeAliases}
use Rattle.doc_nodes.specs.Graph.{Graph}
use Rattle.doc_nodes.specs.Graphs.{IsGraphOf}
use Rattle.doc_nodes.specs.Aliases.{aliases_at}
use Rattle.doc_nodes.specs.Imports.{NodeList}
use Rattle.language.specs.Lang.{Lang}
use Rattle.core_rules.specs.Scratch.{Run, Runs, begins_at, final, run_node}
use Rattle.node_check.specs.Nodes.{reports_of}
use Rattle.pide_build.specs.Handed.{AreBehind}
use Rattle.pide_build.specs.declared.telling.BuiltNode.{BuiltNode}
use Rattle.pide_build.specs.declared.telling.Checked.{Checked}
use Rattle.pide_build.specs.Cutting.{AreUncut}

-- the nodes aren't cut yet, the graph and the aliases are theirs, and they stand at these places
pub record IsReady (nodes : NodeList) (graph : Graph) (aliases : List NodeAliases) (places : List ℕ)
    : Type 0 where
  pub uncut : AreUncut nodes
  pub graph_is : IsGraphOf nodes graph
  pub aliases_are : (p : ℕ) → p < length nodes → slice_get aliases p ≡ Some (aliases_at nodes p)
  pub within : All (λ p. p < length nodes) places

-- a node with what this run of it reports, in report order
abbrev pub built_by : {S : Type 0} → Lang S → List ℕ × Node → Run S → BuiltNode
built_by l pair run =
    record { node = pair.0; reports = ordered_reports (reports_of l pair.1.entries run.commands) }

module _ {S M : Type 0} (l : Lang S) (told : BuiltNode → M) where
  -- what comes of a node is what is told of the run, and what the run hands on
  pub record IsRunOf (pair : List ℕ × Node) (run : Run S) (made : Checked M S) : Type 0 where
    pub told_is : made.told ≡ told (built_by l pair run)
    pub behind : made.behind ≡ final l run

  -- the node at a place makes this, whatever was done before, where the states behind it are kept
  abbrev pub MakesSo : NodeList → List (Option S) → ℕ → Checked M S → Type 0
  MakesSo nodes behind p made = (runs : Runs S) (pair : List ℕ × Node)
      → AreBehind l runs behind → slice_get nodes p ≡ Some pair
      → IsRunOf pair (run_node l pair.1 [] (begins_at l nodes runs p pair)) made
