-- Where headers are the same, so are the aliases of each node.
use Rattle.std.proofs.Common.{◌≡◌, ℕ, zero, suc, ◌+◌, not, nat_lt, cond, List, [], ◌∷◌, ◌++◌, length, map, filter, Option, Some, None, refl, ap, ◌∙◌}
use Rattle.std.specs.Prelude.{⊤}
use Rattle.std.specs.List.{flat_map, position_or_len, range_with_len}
use Rattle.std.specs.Option.{option_map_or}
use Rattle.doc_nodes.specs.Looks.{aims_at}
use Rattle.text_words.specs.Members.{has}
use Rattle.text_words.proofs.KnownLists.{map_alike}
use Rattle.doc_nodes.specs.Rounds.{in_rounds}
use Rattle.outer_syntax.specs.declared.parts.Header.{Header}
use Rattle.outer_syntax.specs.declared.parts.KeywordPair.{KeywordPair}
use Rattle.doc_nodes.specs.declared.inherited.NodeAliases.{NodeAliases}
use Rattle.doc_nodes.specs.declared.node.Node.{Node}
use Rattle.doc_nodes.specs.Aliases.{no_aliases, folded, own_at, known, pairs_from, aliases_by, in_turn, aliases_at}
use Rattle.doc_nodes.specs.Imports.{NodeList, place_of, aims_of, aims, order}
use Rattle.doc_nodes.specs.Names.{equal}
use Rattle.buffer_rules.specs.Nodes.{uncut_all}
use Rattle.buffer_rules.specs.Sheets.{SheetList}
use Rattle.soundness_laws.specs.SameHeaders.{SameHeaders}

-- nodes of the same names, imports and keyword pairs
abbrev pub SameHeads : NodeList → NodeList → Type 0
SameHeads [] [] = ⊤
SameHeads (n ∷ ns) (m ∷ ms) = (n.0 ≡ m.0) × (n.1.imports ≡ m.1.imports) × (n.1.keywords ≡ m.1.keywords) × SameHeads ns ms
SameHeads _ _ = ⊥

-- there are as many
sizes : (ns ms : NodeList) → SameHeads ns ms → length ns ≡ length ms
sizes [] [] same = refl
sizes [] (m ∷ ms) same = absurd same
sizes (n ∷ ns) [] same = absurd same
sizes (n ∷ ns) (m ∷ ms) same = ap suc (sizes ns ms same.3)

first_places : (ns ms : NodeList) (name : List ℕ) → SameHeads ns ms
    → position_or_len (λ (pair : List ℕ × Node). equal pair.0 name) ns ≡ position_or_len (λ (pair : List ℕ × Node). equal pair.0 name) ms
first_places [] [] name same = refl
first_places [] (m ∷ ms) name same = absurd same
first_places (n ∷ ns) [] name same = absurd same
first_places (n ∷ ns) (m ∷ ms) name same = λ i. cond (not (equal (same.0 i) name)) (1 + first_places ns ms name same.3 i) 0

pub places : (ns ms : NodeList) → SameHeads ns ms → (name : List ℕ) → place_of ns name ≡ place_of ms name
places ns ms same name = λ i. cond (nat_lt (first_places ns ms name same i) (sizes ns ms same i)) (Some (first_places ns ms name same i)) None

rows : (all others : NodeList) → ((name : List ℕ) → place_of all name ≡ place_of others name) → (ns ms : NodeList) → SameHeads ns ms
    → map (λ (pair : List ℕ × Node). aims_of all pair.1) ns ≡ map (λ (pair : List ℕ × Node). aims_of others pair.1) ms
rows all others same [] [] heads = refl
rows all others same [] (m ∷ ms) heads = absurd heads
rows all others same (n ∷ ns) [] heads = absurd heads
rows all others same (n ∷ ns) (m ∷ ms) heads =
    let first : aims_of all n.1 ≡ aims_of others m.1 = map_alike (place_of all) (place_of others) same n.1.imports ∙ ap (map (place_of others)) heads.1 in
    λ i. first i ∷ rows all others same ns ms heads.3 i

own_pairs : (ns ms : NodeList) (p : ℕ) → SameHeads ns ms → own_at ns p ≡ own_at ms p
own_pairs [] [] p same = refl
own_pairs [] (m ∷ ms) p same = absurd same
own_pairs (n ∷ ns) [] p same = absurd same
own_pairs (n ∷ ns) (m ∷ ms) zero same = ap (map (λ (pair : KeywordPair). (pair.name, pair.target))) same.2
own_pairs (n ∷ ns) (m ∷ ms) (suc p) same = own_pairs ns ms p same.3

module _ (ns ms : NodeList) (same : SameHeads ns ms) where
  pub aims_same : aims ns ≡ aims ms
  aims_same = rows ns ms (places ns ms same) ns ms same

  pub order_same : order ns ≡ order ms
  order_same = λ i. in_rounds (aims_same i) ++ filter (λ p. not (has (in_rounds (aims_same i)) p)) (range_with_len 0 (sizes ns ms same i))

  by_same : (done : List (ℕ × NodeAliases)) (p : ℕ) → aliases_by ns done p ≡ aliases_by ms done p
  by_same done p = λ i. folded no_aliases
      (cond (has (in_rounds (aims_same i)) p) (flat_map (pairs_from done) (aims_at (aims_same i) p)) [] ++ own_pairs ns ms p same i)

  turn_same : (ps : List ℕ) (done : List (ℕ × NodeAliases)) → in_turn ns ps done ≡ in_turn ms ps done
  turn_same [] done = refl
  turn_same (p ∷ ps) done = ap (λ a. in_turn ns ps ((p, a) ∷ done)) (by_same done p) ∙ turn_same ps ((p, aliases_by ms done p) ∷ done)

  pub same_at : (p : ℕ) → aliases_at ns p ≡ aliases_at ms p
  same_at p = ap (λ ps. known (in_turn ns ps []) p) order_same ∙ ap (λ d. known d p) (turn_same (order ms) [])

pub heads : (ones others : SheetList) → SameHeaders ones others → SameHeads (uncut_all ones) (uncut_all others)
heads [] [] same = tt
heads [] (m ∷ ms) same = absurd same
heads (n ∷ ns) [] same = absurd same
heads (n ∷ ns) (m ∷ ms) same = (
  same.0,
  ap (λ (o : Option Header). option_map_or (λ header. header.imports) o []) same.1,
  ap (λ (o : Option Header). option_map_or (λ header. header.keywords) o []) same.1,
  heads ns ms same.2,
)

pub aliases_same : (ones others : SheetList) (p : ℕ) → SameHeaders ones others → aliases_at (uncut_all ones) p ≡ aliases_at (uncut_all others) p
aliases_same ones others p same = same_at (uncut_all ones) (uncut_all others) (heads ones others same) p
