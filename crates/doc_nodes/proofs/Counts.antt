-- How many of a list pass a test.
use Rattle.std.proofs.Common.{◌≡◌, ℕ, suc, ◌<◌, ◌≤◌, eqb, Bool, true, false, ◌||◌, cond, List, [], ◌∷◌, length, refl, sym, ap, ◌∙◌, arith}
use mathlib.Core.Bool.{false≢true}
use Rattle.std.proofs.lemmas.Bool.Decides.{nat_tests}
use Rattle.text_words.specs.Members.{has}

-- so many pass
abbrev pub count : (ℕ → Bool) → List ℕ → ℕ
count t [] = 0
count t (x ∷ xs) = cond (t x) (suc (count t xs)) (count t xs)

-- what more pass, and one that passes only now
module _ (t u : ℕ → Bool) (fewer : (x : ℕ) → t x ≡ true → u x ≡ true) where
  pub count_le : (xs : List ℕ) → count t xs ≤ count u xs
  count_le [] = omega arith
  count_le (x ∷ xs) = go (t x) (u x) refl refl (count_le xs)
    where
      go : (a b : Bool) → t x ≡ a → u x ≡ b → count t xs ≤ count u xs → cond a (suc (count t xs)) (count t xs) ≤ cond b (suc (count u xs)) (count u xs)
      go true true ea eb rest = omega arith
      go true false ea eb rest = absurd (false≢true (sym eb ∙ fewer x ea))
      go false true ea eb rest = omega arith
      go false false ea eb rest = rest

  pub count_lt : (xs : List ℕ) (y : ℕ) → has xs y ≡ true → t y ≡ false → u y ≡ true → count t xs < count u xs
  count_lt [] y h fails holds = absurd (false≢true h)
  count_lt (x ∷ xs) y h fails holds = go (t x) (u x) refl refl (eqb y x) refl h (count_lt xs y) (count_le xs)
    where
      go : (a b : Bool) → t x ≡ a → u x ≡ b → (same : Bool) → eqb y x ≡ same → (same || has xs y) ≡ true
          → (has xs y ≡ true → t y ≡ false → u y ≡ true → count t xs < count u xs) → count t xs ≤ count u xs
          → cond a (suc (count t xs)) (count t xs) < cond b (suc (count u xs)) (count u xs)
      go true true ea eb true es h rest le = let same : y ≡ x = grind (arith, nat_tests) in absurd (false≢true (sym fails ∙ ap t same ∙ ea))
      go true true ea eb false es h rest le = let less = rest h fails holds in omega arith
      go true false ea eb same es h rest le = absurd (false≢true (sym eb ∙ fewer x ea))
      go false true ea eb same es h rest le = omega arith
      go false false ea eb true es h rest le = let same : y ≡ x = grind (arith, nat_tests) in absurd (false≢true (sym eb ∙ sym (ap u same) ∙ holds))
      go false false ea eb false es h rest le = rest h fails holds

-- no more than there are
pub count_short : (t : ℕ → Bool) (xs : List ℕ) → count t xs ≤ length xs
count_short t [] = omega arith
count_short t (x ∷ xs) = go (t x) (count_short t xs)
  where
    go : (b : Bool) → count t xs ≤ length xs → cond b (suc (count t xs)) (count t xs) ≤ length (x ∷ xs)
    go true rest = omega arith
    go false rest = omega arith

-- where one passes, they are some
pub count_one : (t : ℕ → Bool) (xs : List ℕ) (y : ℕ) → has xs y ≡ true → t y ≡ true → 0 < count t xs
count_one t [] y h holds = absurd (false≢true h)
count_one t (x ∷ xs) y h holds = go (t x) refl (eqb y x) refl h (count_one t xs y)
  where
    go : (b : Bool) → t x ≡ b → (same : Bool) → eqb y x ≡ same → (same || has xs y) ≡ true → (has xs y ≡ true → t y ≡ true → 0 < count t xs)
        → 0 < cond b (suc (count t xs)) (count t xs)
    go true e same es h rest = omega arith
    go false e true es h rest = let same : y ≡ x = grind (arith, nat_tests) in absurd (false≢true (sym e ∙ sym (ap t same) ∙ holds))
    go false e false es h rest = rest h holds
