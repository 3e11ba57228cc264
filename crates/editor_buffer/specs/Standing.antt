-- How the nodes of the newest version stand to what the editor has (this project's own).
use Rattle.std.specs.Prelude.{◌≡◌, ℕ, List, [], length, map, Option, Some, None}
use Rattle.std.specs.Option.{option_map}
use Rattle.std.specs.List.{zip}
use Rattle.shared_map.specs.Pairs.{Each, found}
use Rattle.doc_nodes.specs.declared.node.Node.{Node}
use Rattle.doc_nodes.specs.Names.{in_order}
use Rattle.doc_nodes.specs.Imports.{NodeList, place_of}
use Rattle.doc_nodes.specs.Aliases.{aliases_at}
use Rattle.doc_nodes.specs.Needs.{AliasList}
use Rattle.buffer_rules.specs.declared.sheet.Sheet.{Sheet}
use Rattle.buffer_rules.specs.Sheets.{SheetList}
use Rattle.buffer_rules.specs.Nodes.{uncut, entry, ranges_in}
use Rattle.editor_buffer.specs.OpenSheet.{OpenSheet}

-- the open nodes, in the order of names
abbrev pub OpenList : Type 0
OpenList = List (List ℕ × OpenSheet)

-- their sheets
abbrev pub sheets_of : OpenList → SheetList
sheets_of opened = map (λ pair. (pair.0, pair.1.sheet)) opened

-- a sheet as a node whose commands have these ids
abbrev pub numbered : Sheet → AliasList → List ℕ → Node
numbered sheet aliases ids = record (uncut sheet) {
  entries = map (entry sheet aliases) (zip ids (ranges_in sheet aliases));
}

-- the node is cut from the sheet under these aliases, whatever the ids of its commands are
pub record IsCutFrom (sheet : Sheet) (aliases : AliasList) (node : Node) : Type 0 where
  pub counted : length node.entries ≡ length (ranges_in sheet aliases)
  pub made : node ≡ numbered sheet aliases (map (λ e. e.command) node.entries)

-- a node without its commands
abbrev pub bare : Node → Node
bare node = record node { entries = [] }

-- nodes without their commands
abbrev pub bare_all : NodeList → NodeList
bare_all nodes = map (λ pair. (pair.0, bare pair.1)) nodes

-- a node of a version is cut from what the editor has of it
abbrev pub StandsUnder : Option AliasList → Sheet → Node → Type 0
StandsUnder None sheet node = ⊥
StandsUnder (Some aliases) sheet node = IsCutFrom sheet aliases node

-- the same of two pairs of a name
abbrev pub Stands : List ℕ × OpenSheet → List ℕ × Node → Type 0
Stands opened node = (opened.0 ≡ node.0) × StandsUnder opened.1.cut_under opened.1.sheet node.1

-- the aliases in force in the node of a name, if there is one
abbrev pub aliases_named : NodeList → List ℕ → Option AliasList
aliases_named nodes name = option_map (λ p. (aliases_at nodes p).pairs) (place_of nodes name)

-- the commands of each of them were cut under the aliases that are in force in the node of its name
abbrev pub AreInForce : NodeList → OpenList → Type 0
AreInForce nodes opened = Each (λ o. o.1.cut_under ≡ aliases_named nodes o.0) opened

-- while an update is made: a node whose commands have to be cut has all but these, and another is
-- the node that the version before has, under the aliases that are in force in it there
abbrev pub DraftedUnder : NodeList → Option AliasList → List ℕ → Sheet → Node → Type 0
DraftedUnder tip None name sheet node = bare node ≡ uncut sheet
DraftedUnder tip (Some aliases) name sheet node =
    IsCutFrom sheet aliases node × (found in_order name tip ≡ Some node)
    × (aliases_named tip name ≡ Some aliases)

-- the same of two pairs of a name
abbrev pub Drafted : NodeList → List ℕ × OpenSheet → List ℕ × Node → Type 0
Drafted tip opened node =
    (opened.0 ≡ node.0) × DraftedUnder tip opened.1.cut_under opened.0 opened.1.sheet node.1
