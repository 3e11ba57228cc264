-- The aliases that are in force in nodes (this project's own).
use Rattle.std.specs.Prelude.{◌≡◌, ℕ, ◌<◌, List, length, slice_get, Some}
use Rattle.doc_nodes.specs.Aliases.{aliases_at}
use Rattle.doc_nodes.specs.Imports.{NodeList}
use Rattle.doc_nodes.specs.declared.inherited.NodeAliases.{NodeAliases}

-- these are the aliases in force in each of the nodes, by its place
abbrev pub AreInForce : NodeList → List NodeAliases → Type 0
AreInForce nodes all = (p : ℕ) → p < length nodes → slice_get all p ≡ Some (aliases_at nodes p)
