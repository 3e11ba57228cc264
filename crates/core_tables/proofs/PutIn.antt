-- A list with one element more or less: its length, and what stands where.
use Rattle.std.proofs.Common.{◌≡◌, ℕ, ◌+◌, ◌<◌, ◌≤◌, List, ◌∷◌, ◌++◌, length, take, drop, get_or, rules, arith}
use Rattle.std.proofs.lemmas.List.{places}

abbrev pub put_in : {X : Type 0} → List X → ℕ → X → List X
put_in xs i x = take i xs ++ x ∷ drop i xs

abbrev pub taken_out : {X : Type 0} → List X → ℕ → List X
taken_out xs i = take i xs ++ drop (i + 1) xs

pub length-put_in : {X : Type 0} (xs : List X) (i : ℕ) (x : X) → i ≤ length xs
    → length (put_in xs i x) ≡ length xs + 1
length-put_in xs i x within = search (rules, places)

pub below-put_in : {X : Type 0} (xs : List X) (i k : ℕ) (x d : X) → i ≤ length xs → k < i
    → get_or (put_in xs i x) k d ≡ get_or xs k d
below-put_in xs i k x d within low = grind (arith, places)

pub at-put_in : {X : Type 0} (xs : List X) (i : ℕ) (x d : X) → i ≤ length xs → get_or (put_in xs i x) i d ≡ x
at-put_in xs i x d within = grind (arith, places)

pub above-put_in : {X : Type 0} (xs : List X) (i k : ℕ) (x d : X) → i ≤ length xs → i ≤ k
    → get_or (put_in xs i x) (k + 1) d ≡ get_or xs k d
above-put_in xs i k x d within high = grind (arith, places)

pub length-taken_out : {X : Type 0} (xs : List X) (i : ℕ) → i < length xs
    → length (taken_out xs i) + 1 ≡ length xs
length-taken_out xs i within = search (rules, places)

pub below-taken_out : {X : Type 0} (xs : List X) (i k : ℕ) (d : X) → i < length xs → k < i
    → get_or (taken_out xs i) k d ≡ get_or xs k d
below-taken_out xs i k d within low = grind (arith, places)

pub above-taken_out : {X : Type 0} (xs : List X) (i k : ℕ) (d : X) → i < length xs → i ≤ k
    → get_or (taken_out xs i) k d ≡ get_or xs (k + 1) d
above-taken_out xs i k d within high = grind (arith, places)
