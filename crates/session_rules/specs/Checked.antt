-- What checking a document from nothing looks at (this project's own).
use Rattle.std.specs.Prelude.{ℕ, List, map, Option}
use Rattle.pide_base.specs.declared.range.Range.{Range}
use Rattle.outer_syntax.specs.declared.parts.KeywordPair.{KeywordPair}
use Rattle.doc_nodes.specs.declared.node.Entry.{Entry}
use Rattle.doc_nodes.specs.declared.node.Node.{Node}
use Rattle.doc_nodes.specs.Imports.{NodeList}
use Rattle.buffer_laws.specs.buffer_rules_below.Sheets.{SheetList}

-- of a command: where it stands, and the blob that it needs
pub record CheckedCommand : Type 0 where
  pub range : Range
  pub needs : Option (List ℕ)

-- of a node: its text, its header and its commands
pub record CheckedNode : Type 0 where
  pub text : List ℕ
  pub imports : List (List ℕ)
  pub keywords : List KeywordPair
  pub commands : List CheckedCommand

-- a command without its id, seen or not
abbrev pub checked_command : Entry → CheckedCommand
checked_command e = record { range = e.range; needs = e.needs }

-- a node, required or not
abbrev pub checked_node : Node → CheckedNode
checked_node node = record {
  text = node.text;
  imports = node.imports;
  keywords = node.keywords;
  commands = map checked_command node.entries;
}

-- all nodes, by their names
abbrev pub checked_nodes : NodeList → List (List ℕ × CheckedNode)
checked_nodes nodes = map (λ pair. (pair.0, checked_node pair.1)) nodes

-- the texts of a document, by the names of their nodes
abbrev pub texts_of : SheetList → List (List ℕ × List ℕ)
texts_of sheets = map (λ pair. (pair.0, pair.1.text)) sheets
