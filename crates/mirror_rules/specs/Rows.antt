-- What the commands of nodes are assigned, as replies list it.
use Rattle.std.specs.Prelude.{ℕ, ◌==◌, Bool, true, not, List, [], map, find, Option}
use Rattle.std.specs.Option.{option_map, option_map_or}
use Rattle.std.specs.List.{list_any}
use Rattle.text_words.specs.Members.{has}
use Rattle.shared_map.specs.Pairs.{found}
use Rattle.doc_nodes.specs.declared.node.Entry.{Entry}
use Rattle.doc_nodes.specs.declared.node.Node.{Node}
use Rattle.doc_nodes.specs.Names.{in_order, equal}
use Rattle.doc_nodes.specs.Imports.{NodeList}
use Rattle.exec_rules.specs.Listed.{Told}
use Rattle.reply_messages.specs.declared.told.NodeRows.{NodeRows}
use Rattle.mirror_rules.specs.Images.{Image}

-- the executions of the command of an id among the rows of a node
abbrev pub executions_of : List Told → ℕ → List ℕ
executions_of rows id = option_map_or (λ row. row.1) (find (λ row. row.0 == id) rows) []

-- the rows of the node of a name in a version
abbrev pub rows_of : Image → List ℕ → List Told
rows_of image name = option_map_or (λ rows. rows) (found in_order name image.rows) []

-- the rows that a reply lists for the node of a name, where it lists the node
abbrev pub listed_for : List NodeRows → List ℕ → Option (List Told)
listed_for listed name = option_map (λ n. map (λ r. (r.command, r.executions)) n.rows)
    (find (λ n. equal n.node name) listed)

-- these commands, each with its executions among the rows
abbrev pub rows_by : List Entry → List Told → List Told
rows_by entries rows = map (λ e. (e.command, executions_of rows e.command)) entries

-- the rows of a node of a new version: those that the reply lists, or else those of the tip
abbrev pub node_rows : Image → List NodeRows → List ℕ × Node → List ℕ × List Told
node_rows tip listed pair = (
  pair.0,
  rows_by pair.1.entries
      (option_map_or (λ rows. rows) (listed_for listed pair.0) (rows_of tip pair.0)),
)

-- the node has a command of this id
abbrev pub has_command : Node → ℕ → Bool
has_command node id = has (map (λ e. e.command) node.entries) id

-- these nodes don't have the node that is listed, or not each of the commands
abbrev pub is_unknown : NodeList → NodeRows → Bool
is_unknown nodes n = option_map_or
    (λ node. list_any (λ r. not (has_command node r.command)) n.rows)
    (found in_order n.node nodes) true
