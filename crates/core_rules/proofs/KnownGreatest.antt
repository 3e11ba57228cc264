-- The greatest of numbers is no smaller than any of them.
use Rattle.std.proofs.Common.{◌≡◌, ◌⊎◌, inl, inr, ℕ, ◌≤◌, Bool, true, false, cond, List, [], ◌∷◌, refl, arith}
use Rattle.std.proofs.lemmas.Bool.{eqb-true, ltb-true, ltb-false, or_cases}
use Rattle.std.specs.Prelude.{◌==◌, nat_lt}
use Rattle.text_words.specs.Members.{has}
use Rattle.exec_rules.specs.Assigning.{greater}
use Rattle.core_rules.specs.Doc.{greatest}

pub greater_both : (b : Bool) (m n : ℕ) → nat_lt m n ≡ b → (m ≤ cond b n m) × (n ≤ cond b n m)
greater_both true m n e = (omega (arith, ltb-true m n e), omega arith)
greater_both false m n e = (omega arith, ltb-false m n e)

-- nor than the number that it begins with
pub at_least : (n : ℕ) (xs : List ℕ) → n ≤ greatest n xs
at_least n [] = omega arith
at_least n (x ∷ xs) =
    let le = (greater_both (nat_lt n x) n x refl).0 in
    let more = at_least (greater n x) xs in omega (arith, le, more)

-- nor than one of the others
pub at_most : (n : ℕ) (xs : List ℕ) (x : ℕ) → has xs x ≡ true → x ≤ greatest n xs
at_most n [] x is = absurd (cc)
at_most n (y ∷ xs) x is = go (or_cases (x == y) (has xs x) is) (at_most (greater n y) xs x)
  where
    go : ((x == y) ≡ true) ⊎ (has xs x ≡ true) → (has xs x ≡ true → x ≤ greatest (greater n y) xs) → x ≤ greatest (greater n y) xs
    go (inl same) rest =
        let e = eqb-true x y same in
        let second = (greater_both (nat_lt n y) n y refl).1 in
        let more = at_least (greater n y) xs in omega (arith, e, second, more)
    go (inr there) rest = rest there
