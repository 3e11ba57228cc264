-- What is found in lists of which some items are left out or to which others come.
use Rattle.std.proofs.Common.{map, ◌≡◌, ℕ, zero, suc, Bool, true, false, cond, List, [], ◌∷◌, ◌++◌, filter, Some, None, refl, ap, ◌∙◌}
use Rattle.std.proofs.lemmas.Bool.{or_left, or_right}
use Rattle.std.specs.Prelude.{find, slice_get, ◌||◌, ◌&&◌}
use Rattle.std.specs.List.{list_any, list_all}
use Rattle.std.proofs.lemmas.List.Folds.{find-append}
use Rattle.std.specs.Option.{option_or}

module _ {A : Type 0} where
  -- what is not there doesn't come by leaving out
  pub find_gone : (p g : A → Bool) (xs : List A) → find p xs ≡ None → find p (filter g xs) ≡ None
  find_gone p g [] none = refl
  find_gone p g (x ∷ xs) none = go (g x) (p x) refl none (find_gone p g xs)
    where
      go : (a b : Bool) → p x ≡ b → cond b (Some x) (find p xs) ≡ None → (find p xs ≡ None → find p (filter g xs) ≡ None)
          → find p (cond a (x ∷ filter g xs) (filter g xs)) ≡ None
      go a true at none rest = absurd (cc)
      go true false at none rest = ap (λ c. cond c (Some x) (find p (filter g xs))) at ∙ rest none
      go false false at none rest = rest none

  -- before what may have another
  pub find_before : (p : A → Bool) (xs ys : List A) (x : A) → find p xs ≡ Some x → find p (xs ++ ys) ≡ Some x
  find_before p xs ys x at = find-append p xs ys ∙ ap (λ o. option_or o (find p ys)) at

  -- where none passes
  pub none_at : (p : A → Bool) (xs : List A) → ((i : ℕ) (x : A) → slice_get xs i ≡ Some x → p x ≡ false) → list_any p xs ≡ false
  none_at p [] none = refl
  none_at p (x ∷ xs) none = ap (λ b. b || list_any p xs) (none zero x refl) ∙ none_at p xs (λ i y at. none (suc i) y at)

  -- where each passes
  pub each_passes : (p : A → Bool) (xs : List A) → ((i : ℕ) (x : A) → slice_get xs i ≡ Some x → p x ≡ true) → list_all p xs ≡ true
  each_passes p [] each = refl
  each_passes p (x ∷ xs) each = ap (λ b. b && list_all p xs) (each zero x refl) ∙ each_passes p xs (λ i y at. each (suc i) y at)

-- images item by item
pub map_same : {A B : Type 0} (f g : A → B) (xs : List A) → ((i : ℕ) (x : A) → slice_get xs i ≡ Some x → f x ≡ g x) → map f xs ≡ map g xs
map_same f g [] each = refl
map_same f g (x ∷ xs) each = ap (λ y. y ∷ map f xs) (each zero x refl) ∙ ap (λ ys. g x ∷ ys) (map_same f g xs (λ i y at. each (suc i) y at))
