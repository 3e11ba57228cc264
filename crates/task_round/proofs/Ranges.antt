-- Sums over the numbers from one on, and the rising list that weighs as much.
use Rattle.std.proofs.Common.{◌≡◌, ℕ, zero, suc, ◌+◌, ◌<◌, ◌≤◌, cond, ltb, List, [], ◌∷◌, length, get_or, All, sum_by, refl, ap, ◌∙◌, ⊎_elim, add-one, arith}
use Rattle.std.specs.List.{range_with_len}
use Rattle.std.specs.List.Sorted.{IsNonDecreasing}
use Rattle.std.proofs.lemmas.Bool.{cases_lt, lt-ltb, le-ltb}
use Rattle.std.proofs.lemmas.List.Elements.{All-nil, All-cons}
use Rattle.std.proofs.lemmas.List.Sums.{sum_by-cons}

-- 1 for a number below a bound
below : ℕ → ℕ → ℕ
below a x = cond (ltb x a) 1 0

below_yes : (a x : ℕ) → x < a → below a x ≡ 1
unfolding below
below_yes a x lt = ap (λ b. cond b 1 0) (lt-ltb x a lt)

below_no : (a x : ℕ) → a ≤ x → below a x ≡ 0
unfolding below
below_no a x le = ap (λ b. cond b 1 0) (le-ltb x a le)

-- 1 for a number that isn't
pub beyond : ℕ → ℕ → ℕ
beyond a x = cond (ltb x a) 0 1

beyond_yes : (a x : ℕ) → a ≤ x → beyond a x ≡ 1
unfolding beyond
beyond_yes a x le = ap (λ b. cond b 0 1) (le-ltb x a le)

beyond_no : (a x : ℕ) → x < a → beyond a x ≡ 0
unfolding beyond
beyond_no a x lt = ap (λ b. cond b 0 1) (lt-ltb x a lt)

module _ (weight : ℕ → ℕ) where
  -- one number more
  range_more : (a n : ℕ) → sum_by weight (range_with_len a (suc n)) ≡ sum_by weight (range_with_len a n) + weight (a + n)
  range_more a zero = let same : weight a ≡ weight (a + 0) = ap weight (omega arith) in omega arith
  range_more a (suc n) =
      let long = sum_by-cons weight a (range_with_len (a + 1) (suc n)) in let short = sum_by-cons weight a (range_with_len (a + 1) n) in
      let rest = range_more (a + 1) n in let last : weight (a + 1 + n) ≡ weight (a + suc n) = ap weight (omega arith) in
      omega arith

  pub range_push : (a n : ℕ) → sum_by weight (range_with_len a (n + 1)) ≡ sum_by weight (range_with_len a n) + weight (a + n)
  range_push a n = ap (λ k. sum_by weight (range_with_len a k)) (add-one n) ∙ range_more a n

  range_none : (a n : ℕ) → ((k : ℕ) → a ≤ k → k < a + n → weight k ≡ 0) → sum_by weight (range_with_len a n) ≡ 0
  range_none a zero none = refl
  range_none a (suc n) none =
      let all = sum_by-cons weight a (range_with_len (a + 1) n) in let first = none a (omega arith) (omega arith) in
      let rest = range_none (a + 1) n (λ k low high. none k (omega arith) (omega arith)) in
      omega arith

  list_none : (xs : List ℕ) → ((k d : ℕ) → k < length xs → weight (get_or xs k d) ≡ 0) → sum_by weight xs ≡ 0
  list_none [] none = refl
  list_none (x ∷ xs) none =
      let all = sum_by-cons weight x xs in let first = none 0 0 (omega arith) in
      let rest = list_none xs (λ k d lt. none (suc k) d (omega arith)) in
      omega arith

-- what doesn't weigh beyond a bound lies below it
all_below : (count : ℕ) (xs : List ℕ) → sum_by (beyond count) xs ≡ 0 → All (λ x. x < count) xs
all_below count [] none = All-nil (λ x. x < count)
all_below count (x ∷ xs) none =
    let all = sum_by-cons (beyond count) x xs in
    All-cons (λ y. y < count) x xs (⊎_elim (λ lt. lt) (λ le. let one = beyond_yes count x le in absurd (omega arith)) (cases_lt x count))
    (all_below count xs (omega arith))

-- tasks that are some of those below a bound lie below it
pub within : (count : ℕ) (xs : List ℕ) (rest : ℕ) → sum_by (beyond count) (range_with_len 0 count) ≡ rest + sum_by (beyond count) xs
    → All (λ x. x < count) xs
within count xs rest same =
    let none = range_none (beyond count) 0 count (λ k low high. beyond_no count k (omega arith)) in
    all_below count xs (omega arith)

-- the first of a rising list that weighs as much as the numbers from one on is that one
head_is : (a n x : ℕ) (xs : List ℕ) → IsNonDecreasing (x ∷ xs)
    → ((weight : ℕ → ℕ) → sum_by weight (x ∷ xs) ≡ sum_by weight (range_with_len a (suc n))) → x ≡ a
head_is a n x xs rises same = ⊎_elim low (λ le. ⊎_elim (λ lt. omega arith) high (cases_lt x (a + 1))) (cases_lt x a)
  where
    low : x < a → x ≡ a
    low lt =
        let none = range_none (below a) a (suc n) (λ k from to. below_no a k from) in let one = below_yes a x lt in
        let all = sum_by-cons (below a) x xs in let e = same (below a) in
        absurd (omega arith)

    high : a + 1 ≤ x → x ≡ a
    high le =
        let none = list_none (below (a + 1)) (x ∷ xs) (λ k d lt. below_no (a + 1) (get_or (x ∷ xs) k d) (let up = rises 0 k d (omega arith) lt in omega arith)) in
        let one = below_yes (a + 1) a (omega arith) in let all = sum_by-cons (below (a + 1)) a (range_with_len (a + 1) n) in
        let e = same (below (a + 1)) in
        absurd (omega arith)

-- a rising list that weighs as much as the numbers from one on is these numbers
pub is_range : (n a : ℕ) (xs : List ℕ) → IsNonDecreasing xs
    → ((weight : ℕ → ℕ) → sum_by weight xs ≡ sum_by weight (range_with_len a n)) → xs ≡ range_with_len a n
is_range zero a [] rises same = refl
is_range zero a (x ∷ xs) rises same = let all = sum_by-cons (λ y. 1) x xs in let e = same (λ y. 1) in absurd (omega arith)
is_range (suc n) a [] rises same =
    let all = sum_by-cons (λ y. 1) a (range_with_len (a + 1) n) in let e = same (λ y. 1) in
    absurd (omega arith)
is_range (suc n) a (x ∷ xs) rises same =
    let head = head_is a n x xs rises same in
    let tail = is_range n (a + 1) xs (λ i j d le lt. rises (suc i) (suc j) d (omega arith) (omega arith)) lighter in
    λ k. head k ∷ tail k
  where
    lighter : (weight : ℕ → ℕ) → sum_by weight xs ≡ sum_by weight (range_with_len (a + 1) n)
    lighter weight =
        let mine = sum_by-cons weight x xs in let theirs = sum_by-cons weight a (range_with_len (a + 1) n) in
        let first : weight x ≡ weight a = ap weight (head_is a n x xs rises same) in let e = same weight in
        omega arith
