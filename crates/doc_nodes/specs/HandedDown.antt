-- What a node has from its imports, once the aliases of all nodes are known.
use Rattle.std.specs.Prelude.{ℕ, if◌then◌else◌, List, [], Option, Some, None}
use Rattle.std.specs.List.{flat_map}
use Rattle.doc_nodes.specs.Looks.{aims_at}
use Rattle.doc_nodes.specs.Imports.{NodeList, aims, is_ordered}
use Rattle.doc_nodes.specs.Aliases.{aliases_at}

-- the aliases of an import
abbrev pub pairs_of : NodeList → Option ℕ → List (List ℕ × List ℕ)
pairs_of nodes None = []
pairs_of nodes (Some p) = (aliases_at nodes p).pairs

-- those of the imports of the node at a place, in the header's order, where it is ordered
abbrev pub handed_down : NodeList → ℕ → List (List ℕ × List ℕ)
handed_down nodes p =
    if is_ordered nodes p then flat_map (pairs_of nodes) (aims_at (aims nodes) p) else []
