-- The aliases of commands: names that a header gives to commands (after the keywords of theory
-- headers; the fold is this project's own). An alias is a pair of a name and its target.
use Rattle.std.specs.Prelude.{ℕ, ◌==◌, Bool, if◌then◌else◌, List, [], ◌∷◌, ◌++◌, map, find, slice_get, Option, Some, None}
use Rattle.std.specs.Option.{option_or, option_map_or}
use Rattle.std.specs.List.{flat_map}
use Rattle.shared_map.specs.Pairs.{found}
use Rattle.outer_syntax.specs.Words.{is_inner_command}
use Rattle.doc_nodes.specs.Looks.{aims_at}
use Rattle.doc_nodes.specs.declared.node.Node.{Node}
use Rattle.doc_nodes.specs.declared.inherited.NodeAliases.{NodeAliases}
use Rattle.doc_nodes.specs.Names.{in_order, equal}
use Rattle.doc_nodes.specs.Imports.{NodeList, aims, is_ordered, order}

-- what an alias may stand for
abbrev pub is_target : List ℕ → Bool
is_target word = is_inner_command word

-- no aliases
abbrev pub no_aliases : NodeAliases
no_aliases = record { pairs = []; bad = None }

-- a bad pair is left out; the first one's name is told
abbrev pub left_out : NodeAliases → List ℕ × List ℕ → NodeAliases
left_out a pair = record a { bad = option_or a.bad (Some pair.0) }

-- a pair comes into force behind the others
abbrev pub extended_aliases : NodeAliases → List ℕ × List ℕ → NodeAliases
extended_aliases a pair = record a { pairs = a.pairs ++ pair ∷ [] }

-- a pair with a target: added where its name is new, skipped where it has the same target, else bad
abbrev pub with_target : NodeAliases → List ℕ × List ℕ → Option (List ℕ) → NodeAliases
with_target a pair None = extended_aliases a pair
with_target a pair (Some target) = if equal pair.1 target then a else left_out a pair

-- one pair more
abbrev pub taken_in : NodeAliases → List ℕ × List ℕ → NodeAliases
taken_in a pair = if is_target pair.1 then with_target a pair (found in_order pair.0 a.pairs)
    else left_out a pair

-- all these pairs more, in their order
abbrev pub folded : NodeAliases → List (List ℕ × List ℕ) → NodeAliases
folded a [] = a
folded a (pair ∷ pairs) = folded (taken_in a pair) pairs

-- the pairs of a node's own header
abbrev pub own_pairs : Node → List (List ℕ × List ℕ)
own_pairs node = map (λ pair. (pair.name, pair.target)) node.keywords

-- the pairs of the header of the node at a place
abbrev pub own_at : NodeList → ℕ → List (List ℕ × List ℕ)
own_at nodes p = option_map_or (λ pair. own_pairs pair.1) (slice_get nodes p) []

-- the aliases that were found for the node at a place
abbrev pub known : List (ℕ × NodeAliases) → ℕ → NodeAliases
known done p = option_map_or (λ one. one.1) (find (λ one. one.0 == p) done) no_aliases

-- the aliases of an import
abbrev pub pairs_from : List (ℕ × NodeAliases) → Option ℕ → List (List ℕ × List ℕ)
pairs_from done None = []
pairs_from done (Some p) = (known done p).pairs

-- what the node at a place has from its imports, in the header's order: nothing where it isn't
-- ordered
abbrev pub inherited : NodeList → List (ℕ × NodeAliases) → ℕ → List (List ℕ × List ℕ)
inherited nodes done p =
    if is_ordered nodes p then flat_map (pairs_from done) (aims_at (aims nodes) p) else []

-- the aliases of the node at a place: those of its imports, then its own
abbrev pub aliases_by : NodeList → List (ℕ × NodeAliases) → ℕ → NodeAliases
aliases_by nodes done p = folded no_aliases (inherited nodes done p ++ own_at nodes p)

-- the aliases of the nodes at these places, one after the other, beside those that are known
abbrev pub in_turn : NodeList → List ℕ → List (ℕ × NodeAliases) → List (ℕ × NodeAliases)
in_turn nodes [] done = done
in_turn nodes (p ∷ ps) done = in_turn nodes ps ((p, aliases_by nodes done p) ∷ done)

-- the aliases of the node at a place, once those of all nodes are known in the order of imports
abbrev pub aliases_at : NodeList → ℕ → NodeAliases
aliases_at nodes p = known (in_turn nodes (order nodes) []) p
