-- What is built of a document (this project's own).
use Rattle.std.specs.Prelude.{ℕ, List, [], slice_get, Option}
use Rattle.std.specs.Option.{option_map}
use Rattle.std.specs.List.{filter_map}
use Rattle.report_markup.specs.declared.report.Report.{Report}
use Rattle.report_markup.specs.Sorting.{ordered_reports}
use Rattle.doc_nodes.specs.declared.node.Node.{Node}
use Rattle.doc_nodes.specs.Imports.{NodeList, order}
use Rattle.language.specs.Lang.{Lang}
use Rattle.core_rules.specs.Scratch.{scratch_at}
use Rattle.node_check.specs.Nodes.{reports_of}
use Rattle.pide_build.specs.declared.telling.BuiltNode.{BuiltNode}

module _ {S : Type 0} (l : Lang S) (nodes : NodeList) where
  -- what the commands of the node at a place report, in report order, when the document is checked
  -- from nothing
  abbrev pub built_reports : ℕ → Node → List Report
  built_reports p node = ordered_reports (reports_of l node.entries (scratch_at l nodes [] p))

  -- the node at a place with its reports
  abbrev pub built_at : ℕ → Option BuiltNode
  built_at p = option_map (λ pair. record { node = pair.0; reports = built_reports p pair.1 })
      (slice_get nodes p)

  -- all nodes, in the order of imports
  abbrev pub built_of : List BuiltNode
  built_of = filter_map built_at (order nodes)
