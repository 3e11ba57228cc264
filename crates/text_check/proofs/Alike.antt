-- What the only node of a document has from its imports goes by its header alone.
use Rattle.std.proofs.Common.{◌≡◌, ℕ, Bool, not, if◌then◌else◌, List, [], ◌∷◌, ◌++◌, Option, map, find, refl, sym, ap, ◌∙◌}
use Rattle.std.specs.List.{flat_map}
use Rattle.doc_nodes.specs.Looks.{aims_at}
use Rattle.text_words.specs.Members.{has}
use Rattle.doc_nodes.specs.Rounds.{in_rounds, is_known}
use Rattle.doc_nodes.specs.declared.inherited.NodeAliases.{NodeAliases}
use Rattle.doc_nodes.specs.declared.node.Node.{Node}
use Rattle.doc_nodes.specs.Imports.{aims, is_bad, place_of}
use Rattle.doc_nodes.specs.Aliases.{aliases_at, folded, in_turn, known, no_aliases, own_pairs, pairs_from}
use Rattle.text_check.specs.Headings.{alone, bare}
use Rattle.text_check.proofs.KnownOneNode.{order_one}

-- the imports stand at the same places
places_alike : (name : List ℕ) (node : Node) (imports : List (List ℕ))
    → map (place_of ((name, node) ∷ [])) imports ≡ map (place_of (alone name node.imports node.keywords)) imports
places_alike name node [] = refl
places_alike name node (x ∷ xs) = ap (λ more. place_of ((name, node) ∷ []) x ∷ more) (places_alike name node xs)

aims_alike : (name : List ℕ) (node : Node) → aims ((name, node) ∷ []) ≡ aims (alone name node.imports node.keywords)
aims_alike name node = ap (λ places. places ∷ []) (places_alike name node node.imports)

-- so the same ones are bad
bad_alike : (name : List ℕ) (node : Node) (x : List ℕ)
    → is_bad ((name, node) ∷ []) x ≡ is_bad (alone name node.imports node.keywords) x
bad_alike name node x = ap (λ graph. not (is_known (in_rounds graph) (place_of ((name, node) ∷ []) x))) (aims_alike name node)

find_alike : (p q : List ℕ → Bool) → ((x : List ℕ) → p x ≡ q x) → (xs : List (List ℕ)) → find p xs ≡ find q xs
find_alike p q same [] = refl
find_alike p q same (x ∷ xs) = rw (same x, find_alike p q same xs) refl

pub first_alike : (name : List ℕ) (node : Node) (imports : List (List ℕ))
    → find (is_bad ((name, node) ∷ [])) imports ≡ find (is_bad (alone name node.imports node.keywords)) imports
first_alike name node imports = find_alike (is_bad ((name, node) ∷ [])) (is_bad (alone name node.imports node.keywords)) (bad_alike name node) imports

-- the aliases of the first node, by the places of the imports and its own pairs
abbrev by_graph : List (List (Option ℕ)) → List (List ℕ × List ℕ) → NodeAliases
by_graph graph own = folded no_aliases
    ((if has (in_rounds graph) 0 then flat_map (pairs_from []) (aims_at graph 0) else []) ++ own)

aliases_one : (name : List ℕ) (node : Node)
    → aliases_at ((name, node) ∷ []) 0 ≡ by_graph (aims ((name, node) ∷ [])) (own_pairs node)
aliases_one name node = ap (λ ps. known (in_turn ((name, node) ∷ []) ps []) 0) (order_one name node)

-- and the aliases are the same
pub aliases_alike : (name : List ℕ) (node : Node)
    → aliases_at ((name, node) ∷ []) 0 ≡ aliases_at (alone name node.imports node.keywords) 0
aliases_alike name node = aliases_one name node
    ∙ ap (λ graph. by_graph graph (own_pairs node)) (aims_alike name node)
    ∙ sym (ap (λ ps. known (in_turn (alone name node.imports node.keywords) ps []) 0) (order_one name (bare node.imports node.keywords)))
