-- The order of nodes by their imports. A node's place is counted from 0 in the order of names.
use Rattle.std.specs.Prelude.{ℕ, Bool, not, List, ◌++◌, length, map, filter, find, position, slice_get, Option}
use Rattle.std.specs.Option.{option_map}
use Rattle.std.specs.List.{filter_map, range_with_len}
use Rattle.text_words.specs.Members.{has}
use Rattle.doc_nodes.specs.Rounds.{is_known, in_rounds}
use Rattle.doc_nodes.specs.Names.{equal}
use Rattle.doc_nodes.specs.declared.node.Node.{Node}
use Rattle.doc_nodes.specs.declared.placed.Placed.{Placed}

-- a version's nodes: pairs of a name and a node, in the order of names
abbrev pub NodeList : Type 0
NodeList = List (List ℕ × Node)

-- the place of the node of a name, if it is a node's
abbrev pub place_of : NodeList → List ℕ → Option ℕ
place_of nodes name = position (λ pair. equal pair.0 name) nodes

-- the places of a node's imports
abbrev pub aims_of : NodeList → Node → List (Option ℕ)
aims_of nodes node = map (place_of nodes) node.imports

-- the places of the imports of each node
abbrev pub aims : NodeList → List (List (Option ℕ))
aims nodes = map (λ pair. aims_of nodes pair.1) nodes

-- the places of the ordered nodes: by rounds, in a round by name (Isabelle System manual, sessions;
-- the rounds are this project's own)
abbrev pub ordered_places : NodeList → List ℕ
ordered_places nodes = in_rounds (aims nodes)

-- the node at a place is ordered
abbrev pub is_ordered : NodeList → ℕ → Bool
is_ordered nodes p = has (ordered_places nodes) p

-- the places of the others, by name
abbrev pub other_places : NodeList → List ℕ
other_places nodes = filter (λ p. not (is_ordered nodes p)) (range_with_len 0 (length nodes))

-- the places of all nodes in the order of imports: the ordered ones, then the others
abbrev pub order : NodeList → List ℕ
order nodes = ordered_places nodes ++ other_places nodes

-- an import is bad: it is no node, or one that is not ordered
abbrev pub is_bad : NodeList → List ℕ → Bool
is_bad nodes name = not (is_known (ordered_places nodes) (place_of nodes name))

-- a node in the order of imports, with its first bad import
abbrev pub placed_node : NodeList → List ℕ × Node → Placed
placed_node nodes pair = record { node = pair.0; bad = find (is_bad nodes) pair.1.imports }

-- the order of imports
abbrev pub import_order : NodeList → List Placed
import_order nodes = filter_map (λ p. option_map (placed_node nodes) (slice_get nodes p))
    (order nodes)
