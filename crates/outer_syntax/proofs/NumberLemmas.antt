-- What a search in rising places finds, and how many of them aren't above a place.
use Rattle.std.proofs.Common.{◌≡◌, ℕ, zero, suc, ◌+◌, ◌-◌, ◌<◌, ◌≤◌, Bool, true, false, cond, nat_cmp, Ok, Err, Some, List, [], ◌∷◌, length, get_or, sym, refl, ap, ◌∙◌, subst, ⊎_elim, arith}
use Rattle.std.specs.Prelude.{slice_get, count_by, nat_le}
use Rattle.std.specs.List.Sorted.{IsBinarySearchResult}
use Rattle.std.proofs.lemmas.Bool.{cases_lt, cond-true, cond-false, le-leb, lt-leb}
use Rattle.std.proofs.lemmas.List.Sorted.{searched}
use Rattle.std.proofs.lemmas.List.Sums.{sum_by-cons}
use Rattle.outer_syntax.specs.Boundaries.{last_place, LiesBetween, number_at, Rises}
use Rattle.outer_syntax.proofs.BoundaryLemmas.{got}

never-falls : (xs : List ℕ) → Rises xs → (i j : ℕ) → i ≤ j → j < length xs → get_or xs i 0 ≤ get_or xs j 0
never-falls xs rises i j upto below =
    ⊎_elim (λ (less : i < j). omega (arith, rises i j less below)) (λ (at_least : j ≤ i). let same : i ≡ j = omega arith in omega (arith, ap (λ k. get_or xs k 0) same)) (cases_lt i j)

pub search-ok : (xs : List ℕ) (x n : ℕ) → Rises xs → IsBinarySearchResult (λ y. nat_cmp y x) xs (Ok n) → slice_get xs n ≡ Some x
search-ok xs x n rises found =
    let at = searched xs x (Ok n) found (never-falls xs rises) in got xs n at.0 ∙ ap Some at.1

pub search-err : (xs : List ℕ) (x n : ℕ) → 0 < length xs → get_or xs 0 0 ≡ 0 → Rises xs → x ≤ last_place xs → IsBinarySearchResult (λ y. nat_cmp y x) xs (Err n) → (1 ≤ n) × LiesBetween xs (n - 1) x
search-err xs x n some first rises upto found =
    let at = searched xs x (Err n) found (never-falls xs rises) in
    let positive : 1 ≤ n = ⊎_elim (λ (none : n < 1). let zero_is : n ≡ 0 = omega arith in absurd (omega (arith, at.2 0 (omega arith) some, first))) (λ h. h) (cases_lt n 1) in
    let inside : n < length xs = ⊎_elim (λ h. h) (λ (past : length xs ≤ n). absurd (omega (arith, at.1 (length xs - 1) (omega arith)))) (cases_lt n (length xs)) in
    let next : n - 1 + 1 ≡ n = omega arith in
    (positive, (at.1 (n - 1) (omega arith), subst (λ k. x < get_or xs k 0) (sym next) (at.2 n (omega arith) inside)))

count-cons : (p : ℕ → Bool) (x : ℕ) (xs : List ℕ) → count_by p (x ∷ xs) ≡ cond (p x) 1 0 + count_by p xs
count-cons p x xs = sum_by-cons (λ y. cond (p y) 1 0) x xs

count-front : (p : ℕ → Bool) (xs : List ℕ) (m : ℕ) → m ≤ length xs → ((k : ℕ) → k < m → p (get_or xs k 0) ≡ true) → ((k : ℕ) → m ≤ k → k < length xs → p (get_or xs k 0) ≡ false) → count_by p xs ≡ m
count-front p [] zero within passed failed = refl
count-front p [] (suc m) within passed failed = absurd (omega arith)
count-front p (x ∷ xs) zero within passed failed =
    omega (arith, count-cons p x xs, cond-false {A = ℕ} (p x) 1 0 (failed 0 (omega arith) (omega arith)), count-front p xs zero (omega arith) (λ k below. absurd (omega arith)) (λ k past below. failed (suc k) (omega arith) (omega arith)))
count-front p (x ∷ xs) (suc m) within passed failed =
    omega (arith, count-cons p x xs, cond-true {A = ℕ} (p x) 1 0 (passed 0 (omega arith)), count-front p xs m (omega arith) (λ k below. passed (suc k) (omega arith)) (λ k past below. failed (suc k) (omega arith) (omega arith)))

pub number-is : (xs : List ℕ) (x n : ℕ) → n < length xs → Rises xs → get_or xs n 0 ≤ x → (n + 1 < length xs → x < get_or xs (n + 1) 0) → n ≡ number_at xs x
number-is xs x n inside rises upto next =
    let count : count_by (λ b. nat_le b x) xs ≡ n + 1 =
    count-front (λ b. nat_le b x) xs (n + 1) (omega arith)
    (λ k below. le-leb (get_or xs k 0) x (omega (arith, never-falls xs rises k n (omega arith) inside)))
    (λ k past below. above-false (get_or xs k 0) x (omega (arith, next (omega arith), never-falls xs rises (n + 1) k past below))) in
    omega (arith, count)
  where
    above-false : (a b : ℕ) → b < a → nat_le a b ≡ false
    above-false a b less = lt-leb a b less
