-- The rows that an update tells: those of nodes whose rows are other ones than before (this
-- project's own).
use Rattle.std.specs.Prelude.{ℕ, ◌==◌, Bool, true, false, not, ◌&&◌, List, [], ◌∷◌, map, filter, Option, Some, None}
use Rattle.doc_nodes.specs.declared.node.Entry.{Entry}
use Rattle.exec_rules.specs.declared.row.Row.{Row}
use Rattle.exec_rules.specs.declared.version.Version.{Version}
use Rattle.exec_rules.specs.Assigning.{entries_in, rows_in}

-- a command with the list of its executions
abbrev pub Told : Type 0
Told = ℕ × List ℕ

-- a print, if there is one, as a list
abbrev pub print_list : Option ℕ → List ℕ
print_list None = []
print_list (Some print) = print ∷ []

-- the executions of a command, with their row
abbrev pub executions : Row → List ℕ
executions row = row.evaluation ∷ print_list row.print

-- what is told of a node's commands, of which the first have these rows
abbrev pub told_commands : List Entry → List Row → List Told
told_commands [] rows = []
told_commands (e ∷ es) [] = (e.command, []) ∷ told_commands es []
told_commands (e ∷ es) (row ∷ rows) = (e.command, executions row) ∷ told_commands es rows

-- what is told of the node of a name: nothing where it is none of the version's
abbrev pub told_commands_in : Version → List ℕ → List Told
told_commands_in version name = told_commands (entries_in version name) (rows_in version name)

-- both lists are the same, by the test of their items
abbrev pub same_by : {A : Type 0} → (A → A → Bool) → List A → List A → Bool
same_by same [] [] = true
same_by same (x ∷ xs) (y ∷ ys) = same x y && same_by same xs ys
same_by same xs ys = false

-- both say the same of one command
abbrev pub same_told : Told → Told → Bool
same_told x y = (x.0 == y.0) && same_by (λ e f. e == f) x.1 y.1

-- the rows are others than those of the version before
abbrev pub is_other : Version → List ℕ × List Told → Bool
is_other tip node = not (same_by same_told node.1 (told_commands_in tip node.0))

-- the nodes of the new version whose rows are others than the tip's, in the order of names
abbrev pub listed : Version → Version → List (List ℕ × List Told)
listed tip new = filter (is_other tip) (map (λ pair. (pair.0, told_commands_in new pair.0))
    new.nodes)
