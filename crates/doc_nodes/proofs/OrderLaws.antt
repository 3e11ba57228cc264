-- The order of imports in the subject's words.
use Rattle.std.proofs.Common.{◌≡◌, inl, inr, ℕ, zero, suc, ◌<◌, Bool, true, false, not, ◌&&◌, ◌||◌, cond, List, [], ◌∷◌, ◌++◌, length, get_or, Some, None, refl, sym, ap, ◌∙◌, arith}
use Rattle.std.specs.Prelude.{slice_get, find, map}
use Rattle.std.specs.List.{list_all}
use Rattle.std.proofs.lemmas.Bool.{false≢true}
use Rattle.std.proofs.lemmas.List.{length-map}
use Rattle.std.proofs.lemmas.Option.{slice_get_within}
use Rattle.text_words.specs.Members.{has}
use Rattle.doc_nodes.specs.Rounds.{is_known}
use Rattle.doc_nodes.specs.Looks.{aims_at}
use Rattle.text_words.proofs.KnownMembers.{has_both, has_middle}
use Rattle.doc_nodes.proofs.KnownFiltered.{has_passes, once_in, filtered_within, filtered_has}
use Rattle.doc_nodes.proofs.KnownRounds.{cut, is_order}
use Rattle.doc_nodes.proofs.KnownOrdered.{all_ordered, ordered_known}
use Rattle.doc_nodes.specs.declared.node.Node.{Node}
use Rattle.doc_nodes.specs.Imports.{NodeList, place_of, aims_of, aims, ordered_places, is_ordered, other_places, order, placed_node}
use Rattle.doc_nodes.proofs.WantedLemmas.{placed_within}

map_at : {X Y : Type 0} (f : X → Y) (xs : List X) (k : ℕ) (x : X) (d : Y) → slice_get xs k ≡ Some x → get_or (map f xs) k d ≡ f x
map_at f [] k x d e = absurd (cc)
map_at f (y ∷ xs) zero x d e = let same : y ≡ x = cc in ap f same
map_at f (y ∷ xs) (suc k) x d e = map_at f xs k x d e

all_map : {X Y : Type 0} (f : X → Y) (t : Y → Bool) (xs : List X) → list_all t (map f xs) ≡ list_all (λ x. t (f x)) xs
all_map f t [] = refl
all_map f t (x ∷ xs) = ap (λ b. t (f x) && b) (all_map f t xs)

find_not : {X : Type 0} (t : X → Bool) (xs : List X) → list_all t xs ≡ true → find (λ x. not (t x)) xs ≡ None
find_not t [] all = refl
find_not t (x ∷ xs) all = go (t x) all (find_not t xs)
  where
    go : (b : Bool) → (b && list_all t xs) ≡ true → (list_all t xs ≡ true → find (λ y. not (t y)) xs ≡ None) → cond (not b) (Some x) (find (λ y. not (t y)) xs) ≡ None
    go true h rest = rest h
    go false h rest = absurd (false≢true h)

all_not_found : {X : Type 0} (t : X → Bool) (xs : List X) → find (λ x. not (t x)) xs ≡ None → list_all t xs ≡ true
all_not_found t [] none = refl
all_not_found t (x ∷ xs) none = go (t x) none (all_not_found t xs)
  where
    go : (b : Bool) → cond (not b) (Some x) (find (λ y. not (t y)) xs) ≡ None → (find (λ y. not (t y)) xs ≡ None → list_all t xs ≡ true) → (b && list_all t xs) ≡ true
    go true h rest = rest h
    go false h rest = absurd (cc)

module _ (nodes : NodeList) where
  row : (p : ℕ) (pair : List ℕ × Node) → slice_get nodes p ≡ Some pair → aims_at (aims nodes) p ≡ aims_of nodes pair.1
  row p pair e = map_at (λ (one : List ℕ × Node). aims_of nodes one.1) nodes p pair [] e

  known_all : (front : List ℕ) (p : ℕ) (pair : List ℕ × Node) → slice_get nodes p ≡ Some pair
      → list_all (is_known front) (aims_at (aims nodes) p) ≡ list_all (λ name. is_known front (place_of nodes name)) pair.1.imports
  known_all front p pair e = ap (list_all (is_known front)) (row p pair e) ∙ all_map (place_of nodes) (is_known front) pair.1.imports

  pub ordered_good : (p : ℕ) (pair : List ℕ × Node) → slice_get nodes p ≡ Some pair → is_ordered nodes p ≡ true → (placed_node nodes pair).bad ≡ None
  ordered_good p pair e h = find_not (λ name. is_known (ordered_places nodes) (place_of nodes name)) pair.1.imports (sym (known_all (ordered_places nodes) p pair e) ∙ ordered_known (aims nodes) p h)

  pub good_ordered : (p : ℕ) (pair : List ℕ × Node) → slice_get nodes p ≡ Some pair → (placed_node nodes pair).bad ≡ None → is_ordered nodes p ≡ true
  good_ordered p pair e none =
      let within : p < length (aims nodes) = omega (arith, slice_get_within nodes p pair e, length-map nodes (λ (one : List ℕ × Node). aims_of nodes one.1)) in
      all_ordered (aims nodes) p within (known_all (ordered_places nodes) p pair e ∙ all_not_found (λ name. is_known (ordered_places nodes) (place_of nodes name)) pair.1.imports none)

  other : ℕ → Bool
  other p = not (is_ordered nodes p)

  not_both : (b : Bool) → b ≡ true → not b ≡ true → ⊥
  not_both true e h = false≢true h
  not_both false e h = false≢true e

  -- what stands among the others is not ordered
  pub others_unordered : (p : ℕ) → has (other_places nodes) p ≡ true → is_ordered nodes p ≡ false
  others_unordered p h = go (is_ordered nodes p) refl
    where
      go : (b : Bool) → is_ordered nodes p ≡ b → b ≡ false
      go true e = absurd (not_both (is_ordered nodes p) e (has_passes (λ q. not (is_ordered nodes q)) (length nodes) 0 p h))
      go false e = refl

  pub each_once : (front : List ℕ) (p : ℕ) (rest : List ℕ) → order nodes ≡ front ++ p ∷ rest → has front p ≡ false
  each_once front p rest e = elim (cut (ordered_places nodes) (other_places nodes) front p rest e) [
    | inl c ↦ (is_order (aims nodes)).once front p c.0 c.1
    | inr c ↦
        let unordered = others_unordered p (ap (λ xs. has xs p) c.2 ∙ has_middle c.0 p rest) in
        ap (λ xs. has xs p) c.1
        ∙ has_both (ordered_places nodes) c.0 p
        ∙ ap (λ b. b || has c.0 p) unordered
        ∙ once_in (λ q. not (is_ordered nodes q)) (length nodes) 0 c.0 p rest c.2
  ]

  pub aims_before : (front : List ℕ) (p : ℕ) (rest : List ℕ) → order nodes ≡ front ++ p ∷ rest → is_ordered nodes p ≡ true
      → list_all (is_known front) (aims_at (aims nodes) p) ≡ true
  aims_before front p rest e h = elim (cut (ordered_places nodes) (other_places nodes) front p
      rest e) [
        | inl c ↦ (is_order (aims nodes)).behind front p c.0 c.1
        | inr c ↦ absurd (false≢true (sym (others_unordered p (ap (λ xs. has xs p) c.2 ∙ has_middle c.0 p rest)) ∙ h))
      ]

  pub imports_before : (front : List ℕ) (p : ℕ) (rest : List ℕ) (pair : List ℕ × Node) → order nodes ≡ front ++ p ∷ rest → slice_get nodes p ≡ Some pair
      → is_ordered nodes p ≡ true → list_all (λ name. is_known front (place_of nodes name)) pair.1.imports ≡ true
  imports_before front p rest pair e at h = sym (known_all front p pair at) ∙ aims_before front p rest e h

  pub in_order_within : (p : ℕ) → has (order nodes) p ≡ true → p < length nodes
  in_order_within p h = go (is_ordered nodes p) refl
      (sym (has_both (ordered_places nodes) (other_places nodes) p) ∙ h)
    where
      go : (b : Bool) → is_ordered nodes p ≡ b
          → (is_ordered nodes p || has (other_places nodes) p) ≡ true → p < length nodes
      go true e k = placed_within nodes p e
      go false e k = filtered_within (λ q. not (is_ordered nodes q)) (length nodes) p (ap (λ b. b || has (other_places nodes) p) (sym e) ∙ k)

  pub within_in_order : (p : ℕ) → p < length nodes → has (order nodes) p ≡ true
  within_in_order p lt = has_both (ordered_places nodes) (other_places nodes) p ∙ go
      (is_ordered nodes p) refl
    where
      go : (b : Bool) → is_ordered nodes p ≡ b
          → (is_ordered nodes p || has (other_places nodes) p) ≡ true
      go true e = ap (λ b. b || has (other_places nodes) p) e
      go false e = ap (λ b. b || has (other_places nodes) p) e ∙ filtered_has (λ q. not (is_ordered nodes q)) (length nodes) p lt (ap not e)
