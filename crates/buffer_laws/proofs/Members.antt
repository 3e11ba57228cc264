-- Lists in which no number comes twice.
use Rattle.std.proofs.Common.{◌≡◌, ◌≢◌, ◌⊎◌, ℕ, zero, suc, ◌+◌, ◌<◌, ◌≤◌, Bool, true, false, ◌||◌, List, [], ◌∷◌, ◌++◌, take, drop, refl, sym, ap, ◌∙◌, arith}
use Rattle.std.proofs.lemmas.Bool.{eqb-true, false≢true, or_cases, or_from, or_right, false_from_ne_true}
use Rattle.std.proofs.lemmas.List.{take-append-drop}
use Rattle.std.specs.Prelude.{◌==◌}
use Rattle.std.specs.List.{range_with_len}
use Rattle.text_words.specs.Members.{has}
use Rattle.text_words.proofs.KnownMembers.{has_both, has_itself, has_left, has_right}
use Rattle.core_rules.specs.Updates.{AllDiffer}
use Rattle.buffer_laws.specs.Known.{AreBelow}

pub has_cases : (xs ys : List ℕ) (z : ℕ) → has (xs ++ ys) z ≡ true → (has xs z ≡ true) ⊎ (has ys z ≡ true)
has_cases xs ys z h = or_cases (has xs z) (has ys z) (sym (has_both xs ys z) ∙ h)

pub has_take : (n : ℕ) (xs : List ℕ) (z : ℕ) → has (take n xs) z ≡ true → has xs z ≡ true
has_take n xs z h = ap (λ ys. has ys z) (sym (take-append-drop n xs)) ∙ has_left (take n xs) (drop n xs) z h

pub has_drop : (n : ℕ) (xs : List ℕ) (z : ℕ) → has (drop n xs) z ≡ true → has xs z ≡ true
has_drop n xs z h = ap (λ ys. has ys z) (sym (take-append-drop n xs)) ∙ has_right (take n xs) (drop n xs) z h

-- no number stands in both
abbrev pub AreApart : List ℕ → List ℕ → Type 0
AreApart xs ys = (z : ℕ) → has xs z ≡ true → has ys z ≡ true → ⊥

pub differ_join : (xs ys : List ℕ) → AllDiffer xs → AllDiffer ys → AreApart xs ys → AllDiffer (xs ++ ys)
differ_join [] ys one other apart = other
differ_join (x ∷ xs) ys one other apart = (
  has_both xs ys x ∙ or_from (has xs x) (has ys x) one.0 (false_from_ne_true (has ys x) (apart x (has_itself xs x))),
  differ_join xs ys one.1 other (λ z h. apart z (or_right (z == x) (has xs z) h)),
)

pub apart_of : (xs ys : List ℕ) → AllDiffer (xs ++ ys) → AreApart xs ys
apart_of [] ys all z h k = false≢true h
apart_of (x ∷ xs) ys all z h k = go (z == x) refl h (λ later. apart_of xs ys all.1 z later k)
  where
    go : (b : Bool) → (z == x) ≡ b → (b || has xs z) ≡ true → (has xs z ≡ true → ⊥) → ⊥
    go true e h rest =
        false≢true (sym all.0 ∙ has_right xs ys x (ap (has ys) (sym (eqb-true z x e)) ∙ k))
    go false e h rest = rest h

-- numbers from one on
pub in_range : (n k z : ℕ) → has (range_with_len n k) z ≡ true → (n ≤ z) × (z < n + k)
in_range n zero z h = absurd (false≢true h)
in_range n (suc k) z h = go (z == n) refl h (λ later. in_range (n + 1) k z later)
  where
    go : (b : Bool) → (z == n) ≡ b → (b || has (range_with_len (n + 1) k) z) ≡ true
        → (has (range_with_len (n + 1) k) z ≡ true → (n + 1 ≤ z) × (z < n + 1 + k)) → (n ≤ z) × (z < n + suc k)
    go true e h rest = let same : z ≡ n = eqb-true z n e in (omega (arith, same), omega (arith, same))
    go false e h rest = let later = rest h in (omega (arith, later.0), omega (arith, later.1))

pub range_differs : (n k : ℕ) → AllDiffer (range_with_len n k)
range_differs n zero = tt
range_differs n (suc k) =
    (false_from_ne_true (has (range_with_len (n + 1) k) n) (λ h. let past = in_range (n + 1) k n h in omega (arith, past.0)), range_differs (n + 1) k)

-- what is among numbers below n is below it
pub below_of : (n : ℕ) (xs : List ℕ) (z : ℕ) → AreBelow n xs → has xs z ≡ true → z < n
below_of n [] z all h = absurd (false≢true h)
below_of n (x ∷ xs) z all h = go (z == x) refl h (λ later. below_of n xs z all.1 later)
  where
    go : (b : Bool) → (z == x) ≡ b → (b || has xs z) ≡ true → (has xs z ≡ true → z < n) → z < n
    go true e h rest = let same : z ≡ x = eqb-true z x e in omega (arith, same, all.0)
    go false e h rest = rest h

-- and where all that is among them is below n, all are
pub all_below : (n : ℕ) (xs : List ℕ) → ((z : ℕ) → has xs z ≡ true → z < n) → AreBelow n xs
all_below n [] each = tt
all_below n (x ∷ xs) each = (each x (has_itself xs x), all_below n xs (λ z h. each z (or_right (z == x) (has xs z) h)))
