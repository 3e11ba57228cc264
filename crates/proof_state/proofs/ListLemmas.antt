-- Facts of each element of a list.
use Rattle.std.proofs.Common.{◌≡◌, ℕ, suc, zero, Some, List, [], ◌∷◌, subst}
use Rattle.std.specs.Prelude.{slice_get, remove}
use Rattle.shared_map.specs.Pairs.{Each}

module _ {X : Type 0} where
  pub each_into : (P Q : X → Type 0) (xs : List X) → ((x : X) → P x → Q x) → Each P xs → Each Q xs
  each_into P Q [] into each = tt
  each_into P Q (x ∷ xs) into each = (into x each.0, each_into P Q xs into each.1)

  pub each_at : (P : X → Type 0) (xs : List X) (k : ℕ) (x : X) → slice_get xs k ≡ Some x → Each P xs → P x
  each_at P [] k x at each = cc
  each_at P (y ∷ xs) zero x at each = let e : y ≡ x = cc in subst P e each.0
  each_at P (y ∷ xs) (suc k) x at each = each_at P xs k x at each.1

  pub each_left : (P : X → Type 0) (xs : List X) (k : ℕ) → Each P xs → Each P (remove xs k)
  each_left P [] zero each = tt
  each_left P [] (suc k) each = tt
  each_left P (y ∷ xs) zero each = each.1
  each_left P (y ∷ xs) (suc k) each = (each.0, each_left P xs k each.1)

  -- one element, and each of the others
  pub each_back : (P : X → Type 0) (xs : List X) (k : ℕ) (x : X) → slice_get xs k ≡ Some x → P x → Each P (remove xs k) → Each P xs
  each_back P [] k x at p each = tt
  each_back P (y ∷ xs) zero x at p each = let e : x ≡ y = cc in (subst P e p, each)
  each_back P (y ∷ xs) (suc k) x at p each = (each.0, each_back P xs k x at p each.1)
