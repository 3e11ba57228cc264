-- Words of different lengths differ, and words that test as the same are.
use Rattle.std.proofs.Common.{◌≡◌, ℕ, true, false, List, [], ◌∷◌, length, eqb, refl, arith}
use Rattle.std.proofs.lemmas.Bool.{and_right, and_parts, both_ways, eqb-true}
use Rattle.outer_syntax.specs.Words.{same}

pub same-lengths : (a b : List ℕ) → (length a ≡ length b → ⊥) → same a b ≡ false
same-lengths [] [] differ = absurd (differ refl)
same-lengths [] (y ∷ b) differ = refl
same-lengths (x ∷ a) [] differ = refl
same-lengths (x ∷ a) (y ∷ b) differ = and_right (eqb x y) (same a b) (same-lengths a b (λ e. differ (omega (arith, e))))

pub same-equal : (a b : List ℕ) → same a b ≡ true → a ≡ b
same-equal [] [] e = refl
same-equal [] (y ∷ b) e = absurd (both_ways false refl e)
same-equal (x ∷ a) [] e = absurd (both_ways false refl e)
same-equal (x ∷ a) (y ∷ b) e =
    let parts = and_parts (eqb x y) (same a b) e in
    let head : x ≡ y = eqb-true x y parts.0 in
    let tail : a ≡ b = same-equal a b parts.1 in
    λ i. head i ∷ tail i
