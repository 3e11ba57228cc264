-- What an update tells, as pairs (this project's own).
use Rattle.std.specs.Prelude.{ℕ, List, [], map, slice_index_or, Option, Some, None}
use Rattle.doc_nodes.specs.declared.node.Node.{Node}
use Rattle.exec_rules.specs.declared.row.Row.{Row}
use Rattle.exec_rules.specs.declared.row.Assigned.{Assigned}
use Rattle.exec_rules.specs.Keys.{nothing_assigned}
use Rattle.exec_rules.specs.Listed.{Told, executions, told_commands}
use Rattle.exec_assign.specs.declared.told.ToldCommand.{ToldCommand}
use Rattle.exec_assign.specs.declared.told.ToldNode.{ToldNode}

-- the executions of a row, where there is one
abbrev pub told_row : Option Row → List ℕ
told_row None = []
told_row (Some row) = executions row

-- a command with the list of its executions
abbrev pub told_command : ToldCommand → Told
told_command c = (c.command, told_row c.row)

-- a node with its commands
abbrev pub told_node : ToldNode → List ℕ × List Told
told_node n = (n.node, map told_command n.commands)

-- the node at a place, when this is assigned to the nodes by place
abbrev pub told_at : List Assigned → ℕ → List ℕ × Node → List ℕ × List Told
told_at assigned p pair =
    (pair.0, told_commands pair.1.entries (slice_index_or assigned p nothing_assigned).rows)
