-- What an update assigns, as a reply tells it.
use Rattle.std.specs.Prelude.{ℕ, List, map}
use Rattle.exec_rules.specs.Listed.{Told}
use Rattle.reply_messages.specs.declared.told.CommandRow.{CommandRow}
use Rattle.reply_messages.specs.declared.told.NodeRows.{NodeRows}
use Rattle.reply_messages.specs.Lent.{row_of}
use Rattle.session_replies.specs.declared.assigned.NodeLent.{NodeLent}

-- a command with its executions
abbrev pub command_told : Told → CommandRow
command_told row = record { command = row.0; executions = row.1 }

-- a node with its commands
abbrev pub node_told : List ℕ × List Told → NodeRows
node_told node = record { node = node.0; rows = map command_told node.1 }

-- nodes whose rows are others in a new version
abbrev pub nodes_told : List (List ℕ × List Told) → List NodeRows
nodes_told nodes = map node_told nodes

-- a node with rows of its own
abbrev pub node_of : NodeLent → NodeRows
node_of lent = record { node = lent.node.now; rows = map row_of lent.rows }
