-- Names compared.
use Rattle.std.proofs.Common.{◌≡◌, ℕ, ◌+◌, Bool, true, false, cond, List, [], ◌∷◌, ◌++◌, drop, Option, Some, None, refl, sym, ap, ◌∙◌}
use Rattle.std.specs.Prelude.{slice_get, find, option_map, if◌then◌else◌}
use Rattle.std.specs.Option.{option_or}
use Rattle.shared_map.specs.Pairs.{has_key, found}
use Rattle.doc_nodes.proofs.Lists.{drop_some}
use Rattle.doc_nodes.specs.Names.{in_order, equal}
use Rattle.doc_nodes.proofs.KnownNames.{name_is}

-- the pair behind the others is found where no other has the name
pub found-append : (name : List ℕ) (xs : List (List ℕ × List ℕ)) (pair : List ℕ × List ℕ)
    → found in_order name (xs ++ pair ∷ []) ≡ option_or (found in_order name xs) (if equal pair.0 name then Some pair.1 else None)
found-append name [] pair = go (equal pair.0 name)
  where
    go : (b : Bool) → option_map (λ (p : List ℕ × List ℕ). p.1) (cond b (Some pair) None) ≡ cond b (Some pair.1) None
    go true = refl
    go false = refl
found-append name (x ∷ xs) pair = go (equal x.0 name) (found-append name xs pair)
  where
    go : (b : Bool) → found in_order name (xs ++ pair ∷ []) ≡ option_or (found in_order name xs) (if equal pair.0 name then Some pair.1 else None)
        → option_map (λ (p : List ℕ × List ℕ). p.1) (cond b (Some x) (find (has_key in_order name) (xs ++ pair ∷ [])))
        ≡ option_or (option_map (λ (p : List ℕ × List ℕ). p.1) (cond b (Some x) (find (has_key in_order name) xs))) (if equal pair.0 name then Some pair.1 else None)
    go true rest = refl
    go false rest = rest

-- an index of the pairs stays one, where both get the pair
pub indexed_more : (index new_index pairs new_pairs : List (List ℕ × List ℕ)) (name target : List ℕ)
    → ((q : List ℕ) → found in_order q index ≡ found in_order q pairs) → found in_order name pairs ≡ None
    → ((q : List ℕ) → found in_order q new_index ≡ (if equal name q then Some target else found in_order q index))
    → new_pairs ≡ pairs ++ (name, target) ∷ []
    → (q : List ℕ) → found in_order q new_index ≡ found in_order q new_pairs
indexed_more index new_index pairs new_pairs name target are none more pushed q =
    more q ∙ go (equal name q) refl ∙ sym (found-append q pairs (name, target)) ∙ ap (found in_order q) (sym pushed)
  where
    go : (b : Bool) → equal name q ≡ b → cond b (Some target) (found in_order q index) ≡ option_or (found in_order q pairs) (cond (equal name q) (Some target) None)
    go true e =
        let missing : found in_order q pairs ≡ None = ap (λ z. found in_order z pairs) (sym (name_is name q e)) ∙ none in
        sym (ap (λ o. option_or o (cond (equal name q) (Some target) None)) missing ∙ ap (λ b. cond b (Some target) None) e)
    go false e = are q ∙ or_none (found in_order q pairs) ∙ ap (λ b. option_or (found in_order q pairs) (cond b (Some target) None)) (sym e)
      where
        or_none : (o : Option (List ℕ)) → o ≡ option_or o None
        or_none None = refl
        or_none (Some x) = refl

-- what is found from a place on, where the pair there has the name, and where it has another
pub found_here : (name : List ℕ) (xs : List (List ℕ × List ℕ)) (k : ℕ) (x : List ℕ × List ℕ) → slice_get xs k ≡ Some x → equal x.0 name ≡ true
    → found in_order name (drop k xs) ≡ Some x.1
found_here name xs k x at has = ap (found in_order name) (drop_some xs k x at) ∙ ap (λ b. option_map (λ (p : List ℕ × List ℕ). p.1) (cond b (Some x) (find (has_key in_order name) (drop (k + 1) xs)))) has

pub found_next : (name : List ℕ) (xs : List (List ℕ × List ℕ)) (k : ℕ) (x : List ℕ × List ℕ) → slice_get xs k ≡ Some x → equal x.0 name ≡ false
    → found in_order name (drop (k + 1) xs) ≡ found in_order name (drop k xs)
found_next name xs k x at has = sym (ap (found in_order name) (drop_some xs k x at) ∙ ap (λ b. option_map (λ (p : List ℕ × List ℕ). p.1) (cond b (Some x) (find (has_key in_order name) (drop (k + 1) xs)))) has)
