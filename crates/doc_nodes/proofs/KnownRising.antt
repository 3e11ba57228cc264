-- Rising numbers; just those of a range that pass a test are the range, filtered.
use Rattle.std.proofs.Common.{◌≡◌, ℕ, zero, suc, ◌+◌, ◌<◌, ◌≤◌, eqb, Bool, true, false, cond, List, [], ◌∷◌, length, get_or, refl, sym, ap, subst, ◌∙◌, arith}
use mathlib.Core.Bool.{false≢true}
use Rattle.std.specs.List.{AllPairs, filter, range_with_len}
use Rattle.std.specs.List.Sorted.{IsStrictlyIncreasing}
use Rattle.std.proofs.lemmas.Bool.Decides.{nat_tests}
use Rattle.std.proofs.lemmas.List.Kept.{AllPairs-from_increasing}
use Rattle.text_words.specs.Members.{has}
use Rattle.text_words.proofs.KnownMembers.{has_itself, has_tail}

-- each number is at least a, and above the one before it
abbrev pub RisesFrom : ℕ → List ℕ → Type 0
RisesFrom a [] = Unit {0}
RisesFrom a (x ∷ xs) = (a ≤ x) × RisesFrom (x + 1) xs

-- it has none but those from a on, so many, that pass
abbrev pub Sound : (ℕ → Bool) → ℕ → ℕ → List ℕ → Type 0
Sound p a n xs = (y : ℕ) → has xs y ≡ true → (y < a + n) × (p y ≡ true)

-- it has all of them
abbrev pub Complete : (ℕ → Bool) → ℕ → ℕ → List ℕ → Type 0
Complete p a n xs = (y : ℕ) → a ≤ y → y < a + n → p y ≡ true → has xs y ≡ true

pub rises_from_pairs : (xs : List ℕ) (a : ℕ) → (0 < length xs → a ≤ get_or xs 0 0) → AllPairs (λ x y. x < y) xs → RisesFrom a xs
rises_from_pairs [] a first pairs = tt
rises_from_pairs (x ∷ xs) a first pairs = (
  first (omega arith),
  rises_from_pairs xs (x + 1)
      (λ lt. omega (arith, pairs 0 1 0 (omega arith) (omega arith)))
      (λ i j d h lt. pairs (suc i) (suc j) d (omega arith) (omega arith)),
)

-- none of it is below a
pub has_above : (xs : List ℕ) (b y : ℕ) → RisesFrom b xs → has xs y ≡ true → b ≤ y
has_above [] b y above h = absurd (false≢true h)
has_above (x ∷ xs) b y above h = go (eqb y x) refl (has_above xs (x + 1) y above.1)
  where
    go : (t : Bool) → eqb y x ≡ t → (has xs y ≡ true → x + 1 ≤ y) → b ≤ y
    go true e rest = let same : y ≡ x = grind (arith, nat_tests) in omega (arith, above.0)
    go false e rest = let later : has xs y ≡ true = rw e at h in omega (arith, above.0, rest later)

-- what is later than the first is in the rest
has_later : (x y : ℕ) (xs : List ℕ) → x < y → has (x ∷ xs) y ≡ true → has xs y ≡ true
has_later x y xs lt h = let other : eqb y x ≡ false = grind (arith, nat_tests) in rw other at h

module _ (p : ℕ → Bool) (n a : ℕ)
    (rest : (ys : List ℕ) → RisesFrom (a + 1) ys → Sound p (a + 1) n ys → Complete p (a + 1) n ys → ys ≡ filter p (range_with_len (a + 1) n)) where
  step_in : (xs : List ℕ) → p a ≡ true → RisesFrom a xs → Sound p a (suc n) xs → Complete p a (suc n) xs → xs ≡ a ∷ filter p (range_with_len (a + 1) n)
  step_in [] e above sound complete = absurd (false≢true (complete a (omega arith) (omega arith) e))
  step_in (x ∷ xs) e above sound complete =
      let first : x ≤ a = has_above (x ∷ xs) x a (omega arith, above.1) (complete a (omega arith) (omega arith) e) in
      let same : x ≡ a = omega (arith, above.0) in
      let later : xs ≡ filter p (range_with_len (a + 1) n) = rest xs (subst (λ z. RisesFrom (z + 1) xs) same above.1)
      (λ y h. let s = sound y (has_tail x y xs h) in (omega (arith, s.0), s.1))
      (λ y le lt t. has_later x y xs (omega arith) (complete y (omega arith) (omega arith) t)) in
      cc

  above_more : (xs : List ℕ) → p a ≡ false → RisesFrom a xs → Sound p a (suc n) xs → RisesFrom (a + 1) xs
  above_more [] e above sound = tt
  above_more (x ∷ xs) e above sound =
      let passes : p x ≡ true = (sound x (has_itself xs x)).1 in
      let other : x ≡ a → ⊥ = λ same. false≢true (sym e ∙ sym (ap p same) ∙ passes) in
      (grind (arith, above.0), above.1)

  step_out : (xs : List ℕ) → p a ≡ false → RisesFrom a xs → Sound p a (suc n) xs → Complete p a (suc n) xs → xs ≡ filter p (range_with_len (a + 1) n)
  step_out xs e above sound complete = rest xs (above_more xs e above sound)
      (λ y h. let s = sound y h in (omega (arith, s.0), s.1))
      (λ y le lt t. complete y (omega arith) (omega arith) t)

  step : (b : Bool) → p a ≡ b → (xs : List ℕ) → RisesFrom a xs → Sound p a (suc n) xs → Complete p a (suc n) xs
      → xs ≡ cond b (a ∷ filter p (range_with_len (a + 1) n)) (filter p (range_with_len (a + 1) n))
  step true e xs = step_in xs e
  step false e xs = step_out xs e

-- so it is these, in their order
pub exactly_from : (p : ℕ → Bool) (n a : ℕ) (xs : List ℕ) → RisesFrom a xs → Sound p a n xs → Complete p a n xs → xs ≡ filter p (range_with_len a n)
exactly_from p zero a [] above sound complete = refl
exactly_from p zero a (x ∷ xs) above sound complete = absurd (omega (arith, (sound x (has_itself xs x)).0, above.0))
exactly_from p (suc n) a xs above sound complete = step p n a (exactly_from p n (a + 1)) (p a) refl xs above sound complete

pub exactly : (p : ℕ → Bool) (n : ℕ) (xs : List ℕ) → IsStrictlyIncreasing xs
    → ((y : ℕ) → has xs y ≡ true → (y < n) × (p y ≡ true)) → ((y : ℕ) → y < n → p y ≡ true → has xs y ≡ true)
    → xs ≡ filter p (range_with_len 0 n)
exactly p n xs rises sound complete = exactly_from p n 0 xs (rises_from_pairs xs 0 (λ lt. omega arith) (AllPairs-from_increasing xs rises))
    (λ y h. let s = sound y h in (omega (arith, s.0), s.1))
    (λ y le lt t. complete y (omega arith) t)

-- rising numbers, by one equation a number
pub risen_range : (p : ℕ → Bool) (n : ℕ) (xs : List ℕ) → IsStrictlyIncreasing xs → ((e : ℕ) → has xs e ≡ p e)
    → ((e : ℕ) → p e ≡ true → (1 ≤ e) × (e ≤ n)) → xs ≡ filter p (range_with_len 1 n)
risen_range p n xs rises same within = exactly_from p n 1 xs
    (rises_from_pairs xs 1 (λ lt. first xs lt same) (AllPairs-from_increasing xs rises))
    (λ y is. let mine : p y ≡ true = sym (same y) ∙ is in let le = (within y mine).1 in (omega (arith, le), mine))
    (λ y le lt is. same y ∙ is)
  where
    first : (ys : List ℕ) → 0 < length ys → ((e : ℕ) → has ys e ≡ p e) → 1 ≤ get_or ys 0 0
    first [] lt are = absurd (omega (arith, lt))
    first (y ∷ ys) lt are = (within y (sym (are y) ∙ has_itself ys y)).0
