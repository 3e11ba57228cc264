-- Lists whose numbers rise, and ranges of numbers.
use Rattle.std.proofs.Common.{ℕ, zero, suc, ◌+◌, ◌<◌, ◌≤◌, Bool, true, false, cond, List, [], ◌∷◌, ◌++◌, map, filter, arith}
use Rattle.std.specs.Prelude.{⊤}
use Rattle.std.specs.List.{AllByRecursion, range_with_len}
use Rattle.reply_messages.specs.Forms.{IsRising}

module _ {X : Type 0} (g : X → ℕ) where
  -- each has a number above that of the one before it, the first this one at least
  abbrev pub Rises : ℕ → List X → Type 0
  Rises a [] = ⊤
  Rises a (x ∷ xs) = (a ≤ g x) × Rises (suc (g x)) xs

  rises_less : (a b : ℕ) (xs : List X) → a ≤ b → Rises b xs → Rises a xs
  rises_less a b [] le rises = tt
  rises_less a b (x ∷ xs) le rises = (omega (arith, le, rises.0), rises.1)

  pub rises_filter : (p : X → Bool) (a : ℕ) (xs : List X) → Rises a xs → Rises a (filter p xs)
  rises_filter p a [] rises = tt
  rises_filter p a (x ∷ xs) rises = go (p x) (rises_filter p (suc (g x)) xs rises.1)
    where
      go : (b : Bool) → Rises (suc (g x)) (filter p xs) → Rises a
          (cond b (x ∷ filter p xs) (filter p xs))
      go true rest = (rises.0, rest)
      go false rest = rises_less a (suc (g x)) (filter p xs) (omega (arith, rises.0)) rest

  pub rises_last : (a last : ℕ) (xs : List X) (x : X) → a ≤ g x
      → AllByRecursion (λ y. g y ≤ last) xs → last < g x → Rises a xs → Rises a (xs ++ x ∷ [])
  rises_last a last [] x least below above rises = (least, tt)
  rises_last a last (y ∷ xs) x least below above rises = (
    rises.0,
    rises_last (suc (g y)) last xs x (omega (arith, below.0, above)) below.1 above
        rises.1,
  )

abbrev same : ℕ → ℕ
same n = n

pub rises_map : {X : Type 0} (g : X → ℕ) (a : ℕ) (xs : List X) → Rises g a xs
    → Rises same a (map g xs)
rises_map g a [] rises = tt
rises_map g a (x ∷ xs) rises = (rises.0, rises_map g (suc (g x)) xs rises.1)

rising_from : (a : ℕ) (xs : List ℕ) → Rises same a xs → IsRising xs
rising_from a [] rises = tt
rising_from a (n ∷ []) rises = tt
rising_from a (n ∷ m ∷ more) rises = (
  omega (arith, rises.1.0),
  rising_from (suc n) (m ∷ more) rises.1,
)

-- what passes a test, of rising numbers
pub rising_filter : (p : ℕ → Bool) (a : ℕ) (xs : List ℕ) → Rises same a xs → IsRising (filter p xs)
rising_filter p a xs rises = rising_from a (filter p xs) (rises_filter same p a xs rises)

pub rises_range : (a n : ℕ) → Rises same a (range_with_len a n)
rises_range a zero = tt
rises_range a (suc n) = (omega arith, next (a + 1) (suc a) (omega arith) (rises_range (a + 1) n))
  where
    next : (b c : ℕ) → c ≤ b → Rises same b (range_with_len b n) → Rises same c (range_with_len b n)
    next b c le rises = rises_less same c b (range_with_len b n) le rises

pub range_within : (a n : ℕ) → AllByRecursion (λ x. (a ≤ x) × (x < a + n)) (range_with_len a n)
range_within a zero = tt
range_within a (suc n) = (
  (omega arith, omega arith),
  more (range_with_len (a + 1) n)
      (range_within (a + 1) n),
)
  where
    more : (xs : List ℕ) → AllByRecursion (λ x. (a + 1 ≤ x) × (x < (a + 1) + n)) xs
        → AllByRecursion (λ x. (a ≤ x) × (x < a + suc n)) xs
    more [] all = tt
    more (x ∷ xs) all = ((omega (arith, all.0.0), omega (arith, all.0.1)), more xs all.1)
