-- What is found in lists, and what stands at their places.
use Rattle.std.proofs.Common.{◌≡◌, ◌⊎◌, inl, inr, ℕ, zero, suc, Bool, true, false, cond, List, [], ◌∷◌, ◌++◌, filter, map, Some, None, refl, ap, subst, ◌∙◌}
use Rattle.std.proofs.lemmas.Bool.{or_cases, or_left, or_right}
use Rattle.std.proofs.lemmas.List.Folds.{find-append}
use Rattle.std.specs.Prelude.{find, slice_get}
use Rattle.std.specs.Option.{option_or}
use Rattle.std.specs.List.{AllByRecursion, list_any}

module _ {X : Type 0} (p : X → Bool) where
  -- what is looked for stays, where all that pass stay
  pub find_kept : (g : X → Bool) (xs : List X) → ((x : X) → p x ≡ true → g x ≡ true) → find p (filter g xs) ≡ find p xs
  find_kept g [] so = refl
  find_kept g (x ∷ xs) so = go (g x) refl (p x) refl (find_kept g xs so)
    where
      go : (a : Bool) → g x ≡ a → (b : Bool) → p x ≡ b → find p (filter g xs) ≡ find p xs
          → find p (cond a (x ∷ filter g xs) (filter g xs)) ≡ cond b (Some x) (find p xs)
      go true is b at rest = ap (λ c. cond c (Some x) (find p (filter g xs))) at ∙ ap (λ o. cond b (Some x) o) rest
      go false is true at rest = let yes = so x at in absurd (cc)
      go false is false at rest = rest

  -- behind what doesn't have it
  pub find_behind : (xs ys : List X) → find p xs ≡ None → find p (xs ++ ys) ≡ find p ys
  find_behind xs ys none = find-append p xs ys ∙ ap (λ o. option_or o (find p ys)) none

  -- what holds of all holds of what is found
  pub find_all : (Q : X → Type 0) (xs : List X) (x : X) → AllByRecursion Q xs → find p xs ≡ Some x → Q x
  find_all Q [] x all at = absurd (cc)
  find_all Q (y ∷ xs) x all at = go (p y) at (find_all Q xs x all.1)
    where
      go : (b : Bool) → cond b (Some y) (find p xs) ≡ Some x → (find p xs ≡ Some x → Q x) → Q x
      go true is rest = let same : y ≡ x = cc in subst Q same all.0
      go false is rest = rest is

  -- one that passes is enough
  pub any_at : (xs : List X) (i : ℕ) (x : X) → slice_get xs i ≡ Some x → p x ≡ true → list_any p xs ≡ true
  any_at [] i x at is = absurd (cc)
  any_at (y ∷ xs) zero x at is = let same : y ≡ x = cc in or_left (p y) (list_any p xs) (ap p same ∙ is)
  any_at (y ∷ xs) (suc i) x at is = or_right (p y) (list_any p xs) (any_at xs i x at is)

  -- and where one does, it stands somewhere
  pub any_from : (xs : List X) → list_any p xs ≡ true → (i : ℕ) × (x : X) × (slice_get xs i ≡ Some x) × (p x ≡ true)
  any_from [] is = absurd (cc)
  any_from (y ∷ xs) is = go (or_cases (p y) (list_any p xs) is) (any_from xs)
    where
      go : (p y ≡ true) ⊎ (list_any p xs ≡ true) → (list_any p xs ≡ true
          → (i : ℕ) × (x : X) × (slice_get xs i ≡ Some x) × (p x ≡ true))
          → (i : ℕ) × (x : X) × (slice_get (y ∷ xs) i ≡ Some x) × (p x ≡ true)
      go (inl here) rest = (zero, y, refl, here)
      go (inr more) rest = let r = rest more in (suc r.0, r.1, r.2, r.3)

-- what is made of an item stands where the item does
pub map_get : {X Y : Type 0} (f : X → Y) (xs : List X) (i : ℕ) (x : X) → slice_get xs i ≡ Some x → slice_get (map f xs) i ≡ Some (f x)
map_get f [] i x at = absurd (cc)
map_get f (y ∷ xs) zero x at = let same : y ≡ x = cc in ap (λ z. Some (f z)) same
map_get f (y ∷ xs) (suc i) x at = map_get f xs i x at
