-- Which commands an update may make (this project's own).
use Rattle.std.specs.Prelude.{◌≡◌, ℕ, ◌<◌, ◌≤◌, ◌⊎◌, List, [], slice_get, Some}
use Rattle.std.specs.List.{AllByRecursion}
use Rattle.std.specs.Option.{option_map_or}
use Rattle.outer_syntax.specs.Reading.{header_in}
use Rattle.outer_syntax.specs.declared.parts.KeywordPair.{KeywordPair}
use Rattle.doc_nodes.specs.declared.node.Entry.{Entry}
use Rattle.doc_nodes.specs.declared.node.Node.{Node}
use Rattle.doc_nodes.specs.Imports.{NodeList}
use Rattle.buffer_rules.specs.Numbers.{Command}
use Rattle.buffer_rules.specs.Cuts.{commands_of, source}
use Rattle.buffer_rules.specs.Nodes.{before_in}

-- all of these are below a number
abbrev pub AreBelow : ℕ → List ℕ → Type 0
AreBelow next ids = AllByRecursion (λ id. id < next) ids

-- the command's id is this one or a later one, or it is one of these commands, with its source
abbrev pub IsNewOr : ℕ → List Command → Command → Type 0
IsNewOr next before command =
    (next ≤ command.0) ⊎ ((i : ℕ) × (slice_get before i ≡ Some command))

-- so for each command of these nodes, by those that the node of its name had before
abbrev pub AreKnown : NodeList → ℕ → NodeList → Type 0
AreKnown tip next nodes = AllByRecursion
    (λ pair. AllByRecursion (IsNewOr next (before_in tip pair.0)) (commands_of pair.1)) nodes

-- where the node has no commands, it has neither imports nor keyword pairs
abbrev pub IsBare : Node → Type 0
IsBare node = node.entries ≡ [] → (node.imports ≡ []) × (node.keywords ≡ [])

-- the imports and the keyword pairs that a source's header tells, if it has one
abbrev pub imports_told : List ℕ → List (List ℕ)
imports_told source = option_map_or (λ header. header.imports) (header_in source) []

-- the keyword pairs that the header of a source tells
abbrev pub keywords_told : List ℕ → List KeywordPair
keywords_told source = option_map_or (λ header. header.keywords) (header_in source) []

-- a node's imports and keyword pairs are those of its first command's source
abbrev pub HasOwnHeader : Node → Type 0
HasOwnHeader node = (e : Entry) → slice_get node.entries 0 ≡ Some e
    → (node.imports ≡ imports_told (source node.text e.range))
    × (node.keywords ≡ keywords_told (source node.text e.range))
