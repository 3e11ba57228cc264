-- What rows are encoded as (this project's own, in Isabelle's encoding).
use Rattle.std.specs.Prelude.{List, map}
use Rattle.yxml.specs.declared.tree.Tree.{Tree}
use Rattle.xml_codec.specs.Data.{string_body, pair_body, list_body}
use Rattle.message_values.specs.ShapeBodies.{number_body}
use Rattle.reply_messages.specs.declared.told.CommandRow.{CommandRow}
use Rattle.reply_messages.specs.declared.told.NodeRows.{NodeRows}

-- the pair of a command and the list of its executions
abbrev pub row_body : CommandRow → List Tree
row_body r = pair_body (number_body r.command) (list_body (map number_body r.executions))

-- the pair of a node and the list of its rows
abbrev pub node_body : NodeRows → List Tree
node_body n = pair_body (string_body n.node) (list_body (map row_body n.rows))
