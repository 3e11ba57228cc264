-- What stands at a place of a list.
use Rattle.std.proofs.Common.{◌≡◌, ℕ, zero, suc, ◌<◌, List, [], ◌∷◌, length, Some, refl, subst, arith}
use Rattle.std.specs.Prelude.{slice_get}
use Rattle.std.specs.List.{AllByRecursion}

-- a list has something at each of its places
pub get_there : {A : Type 0} (xs : List A) (i : ℕ) → i < length xs → (x : A) × (slice_get xs i ≡ Some x)
get_there [] i lt = absurd (omega arith)
get_there (y ∷ xs) zero lt = (y, refl)
get_there (y ∷ xs) (suc i) lt = get_there xs i (omega arith)

-- what holds of all holds of what stands at a place
pub all_at : {A : Type 0} (P : A → Type 0) (xs : List A) (i : ℕ) (x : A) → AllByRecursion P xs → slice_get xs i ≡ Some x → P x
all_at P [] i x all at = absurd (cc)
all_at P (y ∷ xs) zero x all at = let same : y ≡ x = cc in subst P same all.0
all_at P (y ∷ xs) (suc i) x all at = all_at P xs i x all.1 at
