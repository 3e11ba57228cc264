-- What the commands of a node report, and how a node that has none yet is cut (this project's own).
use Rattle.std.specs.Prelude.{ℕ, true, List, [], map, zip}
use Rattle.std.specs.List.{flat_map}
use Rattle.report_markup.specs.declared.report.Report.{Report}
use Rattle.report_markup.specs.Ranges.{moved}
use Rattle.doc_nodes.specs.declared.node.Entry.{Entry}
use Rattle.doc_nodes.specs.declared.node.Node.{Node}
use Rattle.doc_nodes.specs.Needs.{AliasList}
use Rattle.language.specs.Lang.{Lang}
use Rattle.core_rules.specs.Settings.{Setting}
use Rattle.buffer_rules.specs.declared.sheet.Sheet.{Sheet}
use Rattle.buffer_rules.specs.Nodes.{cut}
use Rattle.node_check.specs.Walking.{reports_in}

-- each at the command's place
abbrev pub reports_of : {S : Type 0} → Lang S → List Entry → List (Setting S) → List Report
reports_of l entries settings =
    flat_map (λ pair. map (moved pair.0.range.start) (reports_in l pair.1)) (zip entries settings)

-- a node's text as an editor has it: all of it is wanted, whatever is seen
abbrev pub sheet_of : Node → Sheet
sheet_of node = record { text = node.text; required = true; ranges = [] }

-- the node with the commands that its text has under these aliases: this is the first one's id
abbrev pub cut_under : Node → AliasList → ℕ → Node
cut_under node aliases next = cut (sheet_of node) aliases [] next
