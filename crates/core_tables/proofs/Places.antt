-- A list with an element put in at a place, or taken out.
use Rattle.std.proofs.Common.{◌≡◌, ◌≢◌, ◌⊎◌, ℕ, ◌+◌, ◌-◌, ◌<◌, ◌≤◌, List, length, get_or, inl, inr, ◌∙◌, arith}
use Rattle.std.specs.List.{All, Contains, AllPairs}
use Rattle.std.proofs.lemmas.Bool.{cases_lt}
use Rattle.core_tables.proofs.PutIn.{put_in, taken_out, length-put_in, below-put_in, at-put_in, above-put_in, length-taken_out, below-taken_out, above-taken_out}

-- where a place is to the one that is put in
pub data Spot (i k : ℕ) : Type 0 where
  below : k < i → Spot i k
  at : k ≡ i → Spot i k
  above : (m : ℕ) → k ≡ m + 1 → i ≤ m → Spot i k

pub spot : (i k : ℕ) → Spot i k
spot i k = go (cases_lt k i) (cases_lt i k)
  where
    go : (k < i) ⊎ (i ≤ k) → (i < k) ⊎ (k ≤ i) → Spot i k
    go (inl low) _ = below low
    go (inr high) (inr same) = at (omega (arith, high, same))
    go (inr high) (inl behind) = above (k - 1) (omega (arith, behind)) (omega (arith, behind))

-- what holds of each element, and of the one that is put in
pub All-put_in : {X : Type 0} (P : X → Type 0) (xs : List X) (i : ℕ) (x : X) → i ≤ length xs
    → All P xs → P x → All P (put_in xs i x)
All-put_in {X} P xs i x within each new k d low = go (spot i k)
  where
    n : length (put_in xs i x) ≡ length xs + 1
    n = length-put_in xs i x within

    go : Spot i k → P (get_or (put_in xs i x) k d)
    go (below lower) = rw (below-put_in xs i k x d within lower) (each k d (omega (arith, lower, within)))
    go (at e) = rw (e, at-put_in xs i x d within) new
    go (above m e high) = rw (e, above-put_in xs i m x d within high) (each m d (omega (arith, n, low, e)))

-- what is there stays there
pub Contains-put_in : {X : Type 0} (xs : List X) (i : ℕ) (x y : X) → i ≤ length xs
    → Contains xs y → Contains (put_in xs i x) y
Contains-put_in {X} xs i x y within (k, low, is) = go (cases_lt k i)
  where
    n : length (put_in xs i x) ≡ length xs + 1
    n = length-put_in xs i x within

    go : (k < i) ⊎ (i ≤ k) → Contains (put_in xs i x) y
    go (inl lower) = (k, omega (arith, n, low), below-put_in xs i k x y within lower ∙ is)
    go (inr high) = (k + 1, omega (arith, n, low), above-put_in xs i k x y within high ∙ is)

pub Contains-new : {X : Type 0} (xs : List X) (i : ℕ) (x : X) → i ≤ length xs → Contains (put_in xs i x) x
Contains-new xs i x within =
    let n = length-put_in xs i x within in (i, omega (arith, n, within), at-put_in xs i x x within)

-- an order that the new element fits into
pub AllPairs-put_in : {X : Type 0} (R : X → X → Type 0) (xs : List X) (i : ℕ) (x : X) → i ≤ length xs
    → AllPairs R xs → ((k : ℕ) (d : X) → k < i → R (get_or xs k d) x)
    → ((k : ℕ) (d : X) → i ≤ k → k < length xs → R x (get_or xs k d)) → AllPairs R (put_in xs i x)
AllPairs-put_in {X} R xs i x within pairs before behind j k d low high = go (spot i j) (spot i k)
  where
    n : length (put_in xs i x) ≡ length xs + 1
    n = length-put_in xs i x within

    go : Spot i j → Spot i k → R (get_or (put_in xs i x) j d) (get_or (put_in xs i x) k d)
    go (below a) (below b) = rw (below-put_in xs i j x d within a, below-put_in xs i k x d within b)
        (pairs j k d low (omega (arith, b, within)))
    go (below a) (at e) = rw (below-put_in xs i j x d within a, e, at-put_in xs i x d within) (before j d a)
    go (below a) (above m e b) = rw (below-put_in xs i j x d within a, e, above-put_in xs i m x d within b)
        (pairs j m d (omega (arith, a, b)) (omega (arith, n, high, e)))
    go (at e) (below b) = absurd (omega (arith, low, e, b))
    go (at e) (at f) = absurd (omega (arith, low, e, f))
    go (at e) (above m f b) = rw (e, at-put_in xs i x d within, f, above-put_in xs i m x d within b)
        (behind m d b (omega (arith, n, high, f)))
    go (above m e a) (below b) = absurd (omega (arith, low, e, a, b))
    go (above m e a) (at f) = absurd (omega (arith, low, e, a, f))
    go (above m e a) (above l f b) = rw (e, above-put_in xs i m x d within a, f, above-put_in xs i l x d within b)
        (pairs m l d (omega (arith, low, e, f)) (omega (arith, n, high, f)))

-- what is left where an element is taken out
pub All-taken_out : {X : Type 0} (P : X → Type 0) (xs : List X) (i : ℕ) → i < length xs
    → ((k : ℕ) (d : X) → k ≢ i → k < length xs → P (get_or xs k d)) → All P (taken_out xs i)
All-taken_out {X} P xs i within each k d low = go (cases_lt k i)
  where
    n : length (taken_out xs i) + 1 ≡ length xs
    n = length-taken_out xs i within

    go : (k < i) ⊎ (i ≤ k) → P (get_or (taken_out xs i) k d)
    go (inl lower) = rw (below-taken_out xs i k d within lower)
        (each k d (λ e. omega (arith, lower, e)) (omega (arith, n, low)))
    go (inr high) = rw (above-taken_out xs i k d within high)
        (each (k + 1) d (λ e. omega (arith, high, e)) (omega (arith, n, low)))

pub AllPairs-taken_out : {X : Type 0} (R : X → X → Type 0) (xs : List X) (i : ℕ) → i < length xs
    → ((j k : ℕ) (d : X) → j ≢ i → k ≢ i → j < k → k < length xs → R (get_or xs j d) (get_or xs k d))
    → AllPairs R (taken_out xs i)
AllPairs-taken_out {X} R xs i within pairs j k d low high = go (cases_lt j i) (cases_lt k i)
  where
    n : length (taken_out xs i) + 1 ≡ length xs
    n = length-taken_out xs i within

    go : (j < i) ⊎ (i ≤ j) → (k < i) ⊎ (i ≤ k)
        → R (get_or (taken_out xs i) j d) (get_or (taken_out xs i) k d)
    go (inl a) (inl b) = rw (below-taken_out xs i j d within a, below-taken_out xs i k d within b)
        (pairs j k d (λ e. omega (arith, a, e)) (λ e. omega (arith, b, e)) low (omega (arith, n, high)))
    go (inl a) (inr b) = rw (below-taken_out xs i j d within a, above-taken_out xs i k d within b)
        (pairs j (k + 1) d (λ e. omega (arith, a, e)) (λ e. omega (arith, b, e)) (omega (arith, low)) (omega (arith, n, high)))
    go (inr a) (inl b) = absurd (omega (arith, a, b, low))
    go (inr a) (inr b) = rw (above-taken_out xs i j d within a, above-taken_out xs i k d within b)
        (pairs (j + 1) (k + 1) d (λ e. omega (arith, a, e)) (λ e. omega (arith, b, e)) (omega (arith, low)) (omega (arith, n, high)))

-- all others are still there
pub Contains-taken_out : {X : Type 0} (xs : List X) (i : ℕ) (y : X) → i < length xs
    → (k : ℕ) → k ≢ i → k < length xs → get_or xs k y ≡ y → Contains (taken_out xs i) y
Contains-taken_out {X} xs i y within k differ low is = go (cases_lt k i)
  where
    n : length (taken_out xs i) + 1 ≡ length xs
    n = length-taken_out xs i within

    go : (k < i) ⊎ (i ≤ k) → Contains (taken_out xs i) y
    go (inl lower) = (k, omega (arith, n, lower, within), below-taken_out xs i k y within lower ∙ is)
    go (inr high) = behind (cases_lt i k)
      where
        behind : (i < k) ⊎ (k ≤ i) → Contains (taken_out xs i) y
        behind (inr same) = absurd (differ (omega (arith, same, high)))
        behind (inl more) =
            let e : k ≡ (k - 1) + 1 = omega (arith, more) in
            let to : get_or (taken_out xs i) (k - 1) y ≡ get_or xs ((k - 1) + 1) y = above-taken_out xs i (k - 1) y within (omega (arith, more)) in
            (k - 1, omega (arith, n, low, more), to ∙ rw (← e) is)
