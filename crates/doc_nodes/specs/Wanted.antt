-- How many of each node's commands are wanted (this project's own).
use Rattle.std.specs.Prelude.{ℕ, ◌==◌, nat_lt, Bool, false, ◌&&◌, ◌||◌, if◌then◌else◌, List, [], ◌∷◌, ◌++◌, length, map, slice_get, Option, Some, None}
use Rattle.std.specs.Option.{option_map_or}
use Rattle.std.specs.List.{list_any, range_with_len}
use Rattle.doc_nodes.specs.Looks.{aims_at}
use Rattle.doc_nodes.specs.Prefix.{own_wanted}
use Rattle.doc_nodes.specs.Imports.{NodeList, aims, is_ordered, order}

-- the import is the node at the place
abbrev pub is_at : ℕ → Option ℕ → Bool
is_at p None = false
is_at p (Some q) = p == q

-- the node at the place is among these imports
abbrev pub is_aimed : List (Option ℕ) → ℕ → Bool
is_aimed aims p = list_any (is_at p) aims

-- the node at a place wants a command by itself
abbrev pub wants : NodeList → ℕ → Bool
wants nodes p = option_map_or (λ pair. nat_lt 0 (own_wanted pair.1)) (slice_get nodes p) false

-- its imports are wanted as a whole: it is ordered, and wants a command, or is itself one of those
abbrev pub hands_on : NodeList → List (Option ℕ) → ℕ → Bool
hands_on nodes reached p = is_ordered nodes p && (wants nodes p || is_aimed reached p)

-- what the nodes at these places, in the order of imports, reach: the last first
abbrev pub reached : NodeList → List ℕ → List (Option ℕ)
reached nodes [] = []
reached nodes (p ∷ ps) =
    (if hands_on nodes (reached nodes ps) p then aims_at (aims nodes) p else [])
    ++ reached nodes ps

-- the node at a place is reached by imports, direct or not, from an ordered node that wants a
-- command
abbrev pub is_reached : NodeList → ℕ → Bool
is_reached nodes p = is_aimed (reached nodes (order nodes)) p

-- how many commands of the node at a place are wanted: all where it is reached
abbrev pub wanted_at : NodeList → ℕ → ℕ
wanted_at nodes p = option_map_or
    (λ pair. if is_reached nodes p then length pair.1.entries else own_wanted pair.1)
    (slice_get nodes p) 0

-- the same for each node, by name
abbrev pub wanted_counts : NodeList → List ℕ
wanted_counts nodes = map (wanted_at nodes) (range_with_len 0 (length nodes))
