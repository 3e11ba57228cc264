-- What an update may leave alone, by a table of executions (this project's own).
use Rattle.std.specs.Prelude.{◌≡◌, ℕ, Bool, true, not, ◌&&◌, List, slice_get, Option, Some, None}
use Rattle.doc_nodes.specs.Looks.{marked}
use Rattle.doc_nodes.specs.declared.node.Node.{Node}
use Rattle.doc_nodes.specs.Imports.{NodeList}
use Rattle.core_tables.specs.Rows.{Row as TableRow}
use Rattle.exec_rules.specs.declared.row.Row.{Row}
use Rattle.exec_rules.specs.declared.version.Version.{Version}
use Rattle.exec_rules.specs.Assigning.{entries_in}
use Rattle.update_plans.specs.Cancelled.{is_cancelled}

-- a print that is there is not cancelled
abbrev pub lives : {R : Type 0} → List (TableRow R) → Option ℕ → Bool
lives rows None = true
lives rows (Some print) = not (is_cancelled rows print)

-- no execution of a row is cancelled
abbrev pub is_alive : {R : Type 0} → List (TableRow R) → Row → Bool
is_alive rows row = not (is_cancelled rows row.evaluation) && lives rows row.print

-- the nodes that are marked, in the order of names, have the commands that they had
abbrev pub HaveCommands : Version → NodeList → List Bool → Type 0
HaveCommands before nodes marks = (p : ℕ) (pair : List ℕ × Node) → marked marks p ≡ true
    → slice_get nodes p ≡ Some pair → entries_in before pair.0 ≡ pair.1.entries
