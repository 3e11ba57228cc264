-- The numbers of a range that pass a test: which they are, and each once.
use Rattle.std.proofs.Common.{◌≡◌, ℕ, zero, suc, ◌+◌, ◌<◌, ◌≤◌, eqb, Bool, true, false, ◌||◌, cond, List, [], ◌∷◌, ◌++◌, filter, refl, sym, ap, ◌∙◌, arith}
use mathlib.Core.Bool.{false≢true}
use Rattle.std.specs.List.{range_with_len}
use Rattle.std.proofs.lemmas.Bool.Decides.{nat_tests}
use Rattle.text_words.specs.Members.{has}
use Rattle.text_words.proofs.KnownMembers.{has_middle}

-- a place that passes stands in the filter
pub has_filter : (p : ℕ → Bool) (n a y : ℕ) → a ≤ y → y < a + n → p y ≡ true → has (filter p (range_with_len a n)) y ≡ true
has_filter p zero a y le lt e = absurd (omega arith)
has_filter p (suc n) a y le lt e = go (p a) refl (eqb y a) refl (λ other. has_filter p n (a + 1) y (grind (arith, nat_tests)) (omega arith) e)
  where
    go : (b : Bool) → p a ≡ b → (same : Bool) → eqb y a ≡ same
        → (eqb y a ≡ false → has (filter p (range_with_len (a + 1) n)) y ≡ true)
        → has (cond b (a ∷ filter p (range_with_len (a + 1) n)) (filter p (range_with_len (a + 1) n))) y ≡ true
    go true eb true es rest = rw es
    go true eb false es rest = rw es (rest es)
    go false eb true es rest = let same : y ≡ a = grind (arith, nat_tests) in absurd (false≢true (sym eb ∙ sym (ap p same) ∙ e))
    go false eb false es rest = rest es

-- and each of its places is in range
pub has_filter_within : (p : ℕ → Bool) (n a y : ℕ) → has (filter p (range_with_len a n)) y ≡ true → y < a + n
has_filter_within p zero a y h = absurd (false≢true h)
has_filter_within p (suc n) a y h = go (p a) (eqb y a) refl (λ later. has_filter_within p n (a + 1) y later) h
  where
    go : (b same : Bool) → eqb y a ≡ same
        → (has (filter p (range_with_len (a + 1) n)) y ≡ true → y < a + 1 + n)
        → has (cond b (a ∷ filter p (range_with_len (a + 1) n)) (filter p (range_with_len (a + 1) n))) y ≡ true
        → y < a + suc n
    go true true es rest h = let same : y ≡ a = grind (arith, nat_tests) in omega arith
    go true false es rest h = let later = rw es at h in omega (arith, rest later)
    go false same es rest h = omega (arith, rest h)

-- what stands in the filter passes
pub has_passes : (t : ℕ → Bool) (n a y : ℕ) → has (filter t (range_with_len a n)) y ≡ true → t y ≡ true
has_passes t zero a y h = absurd (false≢true h)
has_passes t (suc n) a y h = go (t a) refl (eqb y a) refl (has_passes t n (a + 1) y) h
  where
    go : (b : Bool) → t a ≡ b → (same : Bool) → eqb y a ≡ same
        → (has (filter t (range_with_len (a + 1) n)) y ≡ true → t y ≡ true)
        → has (cond b (a ∷ filter t (range_with_len (a + 1) n)) (filter t (range_with_len (a + 1) n))) y ≡ true → t y ≡ true
    go true e true es rest h = let same : y ≡ a = grind (arith, nat_tests) in ap t same ∙ e
    go true e false es rest h = rest (rw es at h)
    go false e same es rest h = rest h

pub filtered_within : (t : ℕ → Bool) (n y : ℕ) → has (filter t (range_with_len 0 n)) y ≡ true → y < n
filtered_within t n y h = let within : y < 0 + n = has_filter_within t n 0 y h in omega arith

pub filtered_has : (t : ℕ → Bool) (n y : ℕ) → y < n → t y ≡ true → has (filter t (range_with_len 0 n)) y ≡ true
filtered_has t n y lt e = has_filter t n 0 y (omega arith) (omega arith) e

-- no earlier than the first of the range
has_from : (t : ℕ → Bool) (n a y : ℕ) → has (filter t (range_with_len a n)) y ≡ true → a ≤ y
has_from t zero a y h = absurd (false≢true h)
has_from t (suc n) a y h = go (t a) (eqb y a) refl (has_from t n (a + 1) y) h
  where
    go : (b same : Bool) → eqb y a ≡ same
        → (has (filter t (range_with_len (a + 1) n)) y ≡ true → a + 1 ≤ y)
        → has (cond b (a ∷ filter t (range_with_len (a + 1) n)) (filter t (range_with_len (a + 1) n))) y ≡ true → a ≤ y
    go true true es rest h = let same : y ≡ a = grind (arith, nat_tests) in omega arith
    go true false es rest h = let later : a + 1 ≤ y = rest (rw es at h) in omega arith
    go false same es rest h = let later : a + 1 ≤ y = rest h in omega arith

-- a filter of places has each once
pub once_in : (t : ℕ → Bool) (n a : ℕ) (f : List ℕ) (p : ℕ) (rest : List ℕ) → filter t (range_with_len a n) ≡ f ++ p ∷ rest → has f p ≡ false
once_in t n a [] p rest e = refl
once_in t zero a (y ∷ f) p rest e = let none : ⊥ = cc in absurd none
once_in t (suc n) a (y ∷ f) p rest e = go (t a) e (once_in t n (a + 1) f p rest) (once_in t n (a + 1) (y ∷ f) p rest)
  where
    go : (b : Bool) → cond b (a ∷ filter t (range_with_len (a + 1) n)) (filter t (range_with_len (a + 1) n)) ≡ y ∷ f ++ p ∷ rest
        → (filter t (range_with_len (a + 1) n) ≡ f ++ p ∷ rest → has f p ≡ false)
        → (filter t (range_with_len (a + 1) n) ≡ y ∷ f ++ p ∷ rest → has (y ∷ f) p ≡ false)
        → has (y ∷ f) p ≡ false
    go true e later whole =
        let first : a ≡ y = cc in
        let tail : filter t (range_with_len (a + 1) n) ≡ f ++ p ∷ rest = cc in
        let above : a + 1 ≤ p = has_from t n (a + 1) p (ap (λ xs. has xs p) tail ∙ has_middle f p rest) in
        let other : eqb p y ≡ false = grind (arith, nat_tests) in
        ap (λ b. b || has f p) other ∙ later tail
    go false e later whole = whole e

-- one number more
pub range_next : (a n : ℕ) → range_with_len a (suc n) ≡ range_with_len a n ++ (a + n) ∷ []
range_next a zero = let same : a ≡ a + 0 = omega arith in ap (λ b. b ∷ []) same
range_next a (suc n) =
    let same : a + 1 + n ≡ a + suc n = omega arith in
    ap (λ xs. a ∷ xs) (range_next (a + 1) n ∙ ap (λ b. range_with_len (a + 1) n ++ b ∷ []) same)
