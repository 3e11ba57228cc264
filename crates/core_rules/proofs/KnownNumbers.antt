-- Things that are numbered in the order in which they were made.
use Rattle.std.proofs.Common.{◌≡◌, ℕ, suc, ◌+◌, ◌<◌, ◌≤◌, ◌⊎◌, inl, inr, false, cond, List, [], ◌∷◌, length, Option, Some, None, refl, ap, ◌∙◌, arith, Bool, true}
use Rattle.std.proofs.lemmas.Bool.{eq-eqb, ne_eqb, cases_lt, eqb-true}
use Rattle.std.specs.Prelude.{◌==◌}
use Rattle.core_rules.specs.Numbered.{numbered, grown}

pub differ : (m n : ℕ) → m < n → (m == n) ≡ false
differ m n lt = ne_eqb m n (λ e. absurd (omega (arith, e)))

module _ {A : Type 0} where
  -- one more does not change the older ones
  pub numbered_more : (xs : List A) (y : A) (n : ℕ) → n ≤ length xs → numbered (y ∷ xs) n ≡ numbered xs n
  numbered_more xs y n le = ap (λ b. cond b (Some y) (numbered xs n)) (differ n (suc (length xs)) (omega arith))

  pub numbered_newest : (xs : List A) (y : A) → numbered (y ∷ xs) (suc (length xs)) ≡ Some y
  numbered_newest xs y = ap (λ b. cond b (Some y) (numbered xs (suc (length xs)))) (eq-eqb (suc (length xs)) (suc (length xs)) refl)

  pub numbered_past : (xs : List A) (n : ℕ) → length xs < n → numbered xs n ≡ None
  numbered_past [] n lt = refl
  numbered_past (x ∷ xs) n lt =
      ap (λ b. cond b (Some x) (numbered xs n)) (ne_eqb n (suc (length xs)) (λ e. absurd (omega arith)))
      ∙ numbered_past xs n (omega arith)

  within_by : (n m : ℕ) (o : Option A) (x : A) → ((m < n) ⊎ (n ≤ m)) → (m < n → o ≡ None) → o ≡ Some x → n ≤ m
  within_by n m o x (inr le) none at = le
  within_by n m o x (inl lt) none at = let no = none lt in absurd (cc)

  -- what has a number is among them
  pub numbered_within : (xs : List A) (n : ℕ) (x : A) → numbered xs n ≡ Some x → n ≤ length xs
  numbered_within xs n x at = within_by n (length xs) (numbered xs n) x (cases_lt (length xs) n) (numbered_past xs n) at

  pub numbered_on : (xs : List A) (y x : A) (n : ℕ) → numbered xs n ≡ Some x → numbered (y ∷ xs) n ≡ Some x
  numbered_on xs y x n at = numbered_more xs y n (numbered_within xs n x at) ∙ at

  pub numbered_grown : (xs ys : List A) (x : A) (n : ℕ) → numbered xs n ≡ Some x → numbered (grown xs ys) n ≡ Some x
  numbered_grown xs [] x n at = at
  numbered_grown xs (y ∷ ys) x n at = numbered_grown (y ∷ xs) ys x n (numbered_on xs y x n at)

  pub length_grown : (xs ys : List A) → length (grown xs ys) ≡ length xs + length ys
  length_grown xs [] = omega arith
  length_grown xs (y ∷ ys) = length_grown (y ∷ xs) ys ∙ omega arith

-- numbers begin with one
pub numbered_positive : {A : Type 0} (xs : List A) (n : ℕ) (x : A) → numbered xs n ≡ Some x → 1 ≤ n
numbered_positive [] n x at = absurd (cc)
numbered_positive (y ∷ xs) n x at = go (n == suc (length xs)) refl at (numbered_positive xs n x)
  where
    go : (b : Bool) → (n == suc (length xs)) ≡ b → cond b (Some y) (numbered xs n) ≡ Some x
        → (numbered xs n ≡ Some x → 1 ≤ n) → 1 ≤ n
    go true e at rest = omega (arith, eqb-true n (suc (length xs)) e)
    go false e at rest = rest at
