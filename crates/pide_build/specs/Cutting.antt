-- Nodes before and after their texts are cut (this project's own).
use Rattle.std.specs.Prelude.{◌≡◌, [], map}
use Rattle.doc_nodes.specs.Imports.{NodeList}
use Rattle.buffer_rules.specs.Sheets.{SheetList}
use Rattle.buffer_rules.specs.Nodes.{nodes_after, uncut_all}
use Rattle.node_check.specs.Nodes.{sheet_of}

-- the texts of nodes, all of them wanted
abbrev pub sheets_of : NodeList → SheetList
sheets_of nodes = map (λ pair. (pair.0, sheet_of pair.1)) nodes

-- the nodes have the headers of their texts, and no commands yet
abbrev pub AreUncut : NodeList → Type 0
AreUncut nodes = nodes ≡ uncut_all (sheets_of nodes)

-- the same with their commands: the nodes of the first version of a document that has these texts
abbrev pub cut_all : NodeList → NodeList
cut_all nodes = (nodes_after [] (sheets_of nodes) 1).nodes
