-- The last of a list that was grown by one.
use Rattle.std.proofs.Common.{◌≡◌, suc, ◌-◌, List, [], ◌∷◌, ◌++◌, length, Some, refl, ap, ◌∙◌, arith}
use Rattle.std.specs.Prelude.{slice_get}

pub last_is : {A : Type 0} (xs : List A) (x : A) → slice_get (xs ++ x ∷ []) (length (xs ++ x ∷ []) - 1) ≡ Some x
last_is xs x = ap (slice_get (xs ++ x ∷ [])) (long xs) ∙ at xs
  where
    long : (ys : List _) → length (ys ++ x ∷ []) - 1 ≡ length ys
    long ys = omega (arith, counted ys)
      where
        counted : (zs : List _) → length (zs ++ x ∷ []) ≡ suc (length zs)
        counted [] = refl
        counted (z ∷ zs) = ap suc (counted zs)

    at : (ys : List _) → slice_get (ys ++ x ∷ []) (length ys) ≡ Some x
    at [] = refl
    at (y ∷ ys) = at ys
