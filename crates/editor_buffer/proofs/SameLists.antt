-- Lists that are equal place by place.
use Rattle.std.proofs.Common.{◌≡◌, ℕ, zero, suc, ◌<◌, List, [], ◌∷◌, length, refl, ap, ◌∙◌, arith}
use Rattle.std.specs.Prelude.{slice_get}

pub same_lists : {X : Type 0} (xs ys : List X) → length xs ≡ length ys → ((k : ℕ) → k < length xs → slice_get xs k ≡ slice_get ys k) → xs ≡ ys
same_lists [] [] len all = refl
same_lists [] (y ∷ ys) len all = absurd (omega arith)
same_lists (x ∷ xs) [] len all = absurd (omega arith)
same_lists (x ∷ xs) (y ∷ ys) len all =
    let at = all zero (omega arith) in
    let head : x ≡ y = cc in
    ap (λ z. z ∷ xs) head ∙ ap (λ zs. y ∷ zs) (same_lists xs ys (omega arith) (λ k lt. all (suc k) (omega arith)))
