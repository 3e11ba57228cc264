-- The nodes that an update makes of a document's sheets (this project's own).
use Rattle.std.specs.Prelude.{◌≡◌, ℕ, ◌+◌, Bool, true, List, [], ◌∷◌, map, slice_get, Some}
use Rattle.std.specs.Option.{option_map_or}
use Rattle.std.specs.List.{zip}
use Rattle.shared_map.specs.Pairs.{found}
use Rattle.pide_base.specs.declared.range.Range.{Range}
use Rattle.outer_syntax.specs.Reading.{header_in}
use Rattle.doc_nodes.specs.declared.node.Entry.{Entry}
use Rattle.doc_nodes.specs.declared.node.Node.{Node}
use Rattle.doc_nodes.specs.Names.{in_order}
use Rattle.doc_nodes.specs.Imports.{NodeList}
use Rattle.doc_nodes.specs.Aliases.{aliases_at}
use Rattle.doc_nodes.specs.Needs.{AliasList, needs}
use Rattle.buffer_rules.specs.declared.sheet.Sheet.{Sheet}
use Rattle.buffer_rules.specs.Sheets.{SheetList}
use Rattle.buffer_rules.specs.Cuts.{command_ranges, source, is_seen, commands_of}
use Rattle.buffer_rules.specs.Numbers.{Command, ids_of, new_count}

-- a node with its header, before its text is cut
abbrev pub uncut : Sheet → Node
uncut sheet = record {
  text = sheet.text;
  entries = [];
  required = sheet.required;
  imports = option_map_or (λ header. header.imports) (header_in sheet.text) [];
  keywords = option_map_or (λ header. header.keywords) (header_in sheet.text) [];
}

-- all of them, by name: imports and aliases go by these
abbrev pub uncut_all : SheetList → NodeList
uncut_all sheets = map (λ pair. (pair.0, uncut pair.1)) sheets

-- the command of an id and a range
abbrev pub entry : Sheet → AliasList → ℕ × Range → Entry
entry sheet aliases one = record {
  command = one.0;
  range = one.1;
  visible = is_seen sheet.ranges one.1;
  needs = needs (source sheet.text one.1) aliases;
}

-- where the commands of a sheet stand
abbrev pub ranges_in : Sheet → AliasList → List Range
ranges_in sheet aliases = command_ranges sheet.text (map (λ pair. pair.0) aliases)

-- the sources of its commands
abbrev pub sources : Sheet → AliasList → List (List ℕ)
sources sheet aliases = map (source sheet.text) (ranges_in sheet aliases)

-- the commands that the version before has in the node of a name: none where it has no such node
abbrev pub before_in : NodeList → List ℕ → List Command
before_in tip name = option_map_or commands_of (found in_order name tip) []

-- a sheet as a node, when the commands before are these and the next id is this
abbrev pub cut : Sheet → AliasList → List Command → ℕ → Node
cut sheet aliases before next = record (uncut sheet) {
  entries = map (entry sheet aliases)
      (zip (ids_of before (sources sheet aliases) next) (ranges_in sheet aliases));
}

-- the nodes, and the next id
pub record Numbered : Type 0 where
  pub nodes : NodeList
  pub next : ℕ

-- one node before others that come behind it
abbrev pub in_front : List ℕ → Node → Numbered → Numbered
in_front name node n = record n { nodes = (name, node) ∷ n.nodes }

-- the sheets from a place on, in the order of names, when the next id is this
abbrev pub nodes_from : NodeList → NodeList → ℕ → SheetList → ℕ → Numbered
nodes_from tip all p [] next = record { nodes = []; next = next }
nodes_from tip all p (pair ∷ pairs) next =
    let aliases = (aliases_at all p).pairs in
    let before = before_in tip pair.0 in
    in_front pair.0 (cut pair.1 aliases before next)
    (nodes_from tip all (p + 1) pairs (next + new_count before (sources pair.1 aliases)))

-- the nodes of a document: each text cut under the aliases in force in it, its commands with the
-- ids that they keep from the version before, and the next ones
abbrev pub nodes_after : NodeList → SheetList → ℕ → Numbered
nodes_after tip sheets next = nodes_from tip (uncut_all sheets) 0 sheets next

-- nodes of which those that are marked are the version's before
abbrev pub AreKept : NodeList → List Bool → NodeList → Type 0
AreKept tip marks nodes = (p : ℕ) (pair : List ℕ × Node) → slice_get marks p ≡ Some true
    → slice_get nodes p ≡ Some pair → found in_order pair.0 tip ≡ Some pair.1
