-- Imports, aliases and their order go by the headers of nodes alone.
use Rattle.std.proofs.Common.{◌≡◌, ℕ, ◌+◌, ltb, not, cond, if◌then◌else◌, List, [], ◌∷◌, ◌++◌, length, filter, find, map, Option, Some, None, refl, sym, ap, ap₂, ◌∙◌}
use Rattle.std.specs.Prelude.{slice_get}
use Rattle.std.specs.Option.{option_map, option_map_or}
use Rattle.std.specs.List.{flat_map, range_with_len, position_or_len}
use Rattle.std.proofs.lemmas.List.{length-map}
use Rattle.std.proofs.lemmas.Option.{slice_get-map}
use Rattle.text_words.specs.Members.{has}
use Rattle.text_words.proofs.KnownLists.{map_alike}
use Rattle.doc_nodes.specs.Rounds.{in_rounds, is_known}
use Rattle.doc_nodes.specs.Looks.{aims_at}
use Rattle.doc_nodes.specs.declared.node.Node.{Node}
use Rattle.doc_nodes.specs.declared.inherited.NodeAliases.{NodeAliases}
use Rattle.doc_nodes.specs.Names.{equal}
use Rattle.doc_nodes.specs.Imports.{NodeList, aims, aims_of, is_bad, order, other_places, place_of}
use Rattle.doc_nodes.specs.Aliases.{aliases_at, aliases_by, folded, in_turn, inherited, known, no_aliases, own_at, own_pairs, pairs_from}
use Rattle.doc_nodes.specs.Heads.{head, heads}

len_head : (name : List ℕ) (nodes : NodeList) → position_or_len (λ (pair : List ℕ × Node). equal pair.0 name) (heads nodes)
    ≡ position_or_len (λ (pair : List ℕ × Node). equal pair.0 name) nodes
len_head name [] = refl
len_head name (x ∷ nodes) = ap (λ k. cond (not (equal x.0 name)) (1 + k) 0) (len_head name nodes)

pub place_head : (nodes : NodeList) (name : List ℕ) → place_of (heads nodes) name ≡ place_of nodes name
place_head nodes name =
    ap (λ k. cond (ltb k (length (heads nodes))) (Some k) None) (len_head name nodes)
    ∙ ap (λ n. cond (ltb (position_or_len (λ (pair : List ℕ × Node). equal pair.0 name) nodes) n)
    (Some (position_or_len (λ (pair : List ℕ × Node). equal pair.0 name) nodes)) None)
    (length-map nodes (λ (pair : List ℕ × Node). (pair.0, head pair.1)))

-- the rows of imports of these nodes among all
rows_head : (all nodes : NodeList) → map (λ (pair : List ℕ × Node). aims_of (heads all) pair.1) (heads nodes)
    ≡ map (λ (pair : List ℕ × Node). aims_of all pair.1) nodes
rows_head all [] = refl
rows_head all (x ∷ nodes) =
    ap₂ (λ row rows. row ∷ rows) (map_alike (place_of (heads all)) (place_of all) (place_head all) x.1.imports) (rows_head all nodes)

pub aims_head : (nodes : NodeList) → aims (heads nodes) ≡ aims nodes
aims_head nodes = rows_head nodes nodes

pub others_head : (nodes : NodeList) → other_places (heads nodes) ≡ other_places nodes
others_head nodes =
    ap₂ (λ rows n. filter (λ p. not (has (in_rounds rows) p)) (range_with_len 0 n)) (aims_head nodes)
    (length-map nodes (λ (pair : List ℕ × Node). (pair.0, head pair.1)))

pub order_head : (nodes : NodeList) → order (heads nodes) ≡ order nodes
order_head nodes = ap₂ (λ rows rest. in_rounds rows ++ rest) (aims_head nodes) (others_head nodes)

own_head : (nodes : NodeList) (p : ℕ) → own_at (heads nodes) p ≡ own_at nodes p
own_head nodes p =
    ap (λ o. option_map_or (λ (pair : List ℕ × Node). own_pairs pair.1) o [])
    (slice_get-map (λ (pair : List ℕ × Node). (pair.0, head pair.1)) nodes p)
    ∙ go (slice_get nodes p)
  where
    go : (o : Option (List ℕ × Node)) → option_map_or (λ (pair : List ℕ × Node). own_pairs pair.1) (option_map (λ (pair : List ℕ × Node). (pair.0, head pair.1)) o) []
        ≡ option_map_or (λ (pair : List ℕ × Node). own_pairs pair.1) o []
    go None = refl
    go (Some pair) = refl

by_head : (nodes : NodeList) (done : List (ℕ × NodeAliases)) (p : ℕ) → aliases_by (heads nodes) done p ≡ aliases_by nodes done p
by_head nodes done p =
    ap (λ rows. folded no_aliases ((if has (in_rounds rows) p then flat_map (pairs_from done) (aims_at rows p) else []) ++ own_at (heads nodes) p)) (aims_head nodes)
    ∙ ap (λ own. folded no_aliases (inherited nodes done p ++ own)) (own_head nodes p)

turn_head : (nodes : NodeList) (ps : List ℕ) (done : List (ℕ × NodeAliases)) → in_turn (heads nodes) ps done ≡ in_turn nodes ps done
turn_head nodes [] done = refl
turn_head nodes (p ∷ ps) done =
    turn_head nodes ps ((p, aliases_by (heads nodes) done p) ∷ done)
    ∙ ap (λ a. in_turn nodes ps ((p, a) ∷ done)) (by_head nodes done p)

pub aliases_head : (p : ℕ) (nodes : NodeList) → aliases_at (heads nodes) p ≡ aliases_at nodes p
aliases_head p nodes =
    ap (λ places. known (in_turn (heads nodes) places []) p) (order_head nodes)
    ∙ ap (λ done. known done p) (turn_head nodes (order nodes) [])

-- the first bad import
pub bad_head : (nodes : NodeList) (names : List (List ℕ)) → find (is_bad (heads nodes)) names ≡ find (is_bad nodes) names
bad_head nodes [] = refl
bad_head nodes (name ∷ names) =
    ap₂ (λ b rest. cond b (Some name) rest)
    (ap₂ (λ rows place. not (is_known (in_rounds rows) place)) (aims_head nodes) (place_head nodes name)) (bad_head nodes names)

-- what goes by headers alone is the same of nodes with the same ones
pub along : {X : Type 0} (f : NodeList → X) → ((nodes : NodeList) → f (heads nodes) ≡ f nodes) → (nodes more : NodeList) → heads nodes ≡ heads more → f nodes ≡ f more
along f by nodes more same = sym (by nodes) ∙ ap f same ∙ by more
