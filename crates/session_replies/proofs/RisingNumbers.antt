-- Numbers that rise.
use Rattle.std.proofs.Common.{◌≡◌, ℕ, zero, suc, ◌+◌, ◌<◌, ◌≤◌, eqb, Bool, true, false, cond, ◌||◌, List, [], ◌∷◌, length, get_or, refl, sym, ap, ◌∙◌, arith}
use Rattle.std.proofs.lemmas.Bool.{false≢true}
use Rattle.std.proofs.lemmas.Bool.Decides.{nat_tests}
use Rattle.std.proofs.lemmas.List.Kept.{AllPairs-from_increasing}
use Rattle.std.specs.List.{filter, range_with_len}
use Rattle.std.specs.List.Sorted.{IsStrictlyIncreasing}
use Rattle.text_words.specs.Members.{has}
use Rattle.doc_nodes.proofs.KnownRising.{RisesFrom, rises_from_pairs, has_above}
use Rattle.text_words.proofs.KnownMembers.{has_itself}
use Rattle.reply_messages.specs.Forms.{IsRising}

pub rising : (a : ℕ) (xs : List ℕ) → RisesFrom a xs → IsRising xs
rising a [] r = tt
rising a (x ∷ []) r = tt
rising a (x ∷ y ∷ more) r = (omega (arith, r.1.0), rising (x + 1) (y ∷ more) r.1)

pub later : (a b : ℕ) (xs : List ℕ) → a ≤ b → RisesFrom b xs → RisesFrom a xs
later a b [] le r = tt
later a b (x ∷ xs) le r = (omega (arith, le, r.0), r.1)

pub filtered : (p : ℕ → Bool) (a : ℕ) (xs : List ℕ) → RisesFrom a xs → RisesFrom a (filter p xs)
filtered p a [] r = tt
filtered p a (x ∷ xs) r = go (p x) (filtered p (x + 1) xs r.1)
  where
    go : (b : Bool) → RisesFrom (x + 1) (filter p xs) → RisesFrom a (cond b (x ∷ filter p xs) (filter p xs))
    go true rest = (r.0, rest)
    go false rest = later a (x + 1) (filter p xs) (omega (arith, r.0)) rest

range_rises : (a n : ℕ) → RisesFrom a (range_with_len a n)
range_rises a zero = tt
range_rises a (suc n) = (omega arith, range_rises (a + 1) n)

-- those of a range that pass a test rise
pub range_filtered : (p : ℕ → Bool) (a n : ℕ) → IsRising (filter p (range_with_len a n))
range_filtered p a n = rising a (filter p (range_with_len a n)) (filtered p a (range_with_len a n) (range_rises a n))

pub increasing : (xs : List ℕ) → IsStrictlyIncreasing xs → RisesFrom 0 xs
increasing xs rises = rises_from_pairs xs 0 (λ lt. omega arith) (AllPairs-from_increasing xs rises)

rises_by : (xs : List ℕ) → IsRising xs → (a : ℕ) → (0 < length xs → a ≤ get_or xs 0 0) → RisesFrom a xs
rises_by [] r a first = tt
rises_by (x ∷ []) r a first = (first (omega arith), tt)
rises_by (x ∷ y ∷ more) r a first = (first (omega arith), rises_by (y ∷ more) r.1 (x + 1) (λ lt. omega (arith, r.0)))

pub from_rising : (xs : List ℕ) → IsRising xs → RisesFrom 0 xs
from_rising xs r = rises_by xs r 0 (λ lt. omega arith)

none_below : (xs : List ℕ) (b y : ℕ) → RisesFrom b xs → y < b → has xs y ≡ false
none_below xs b y r lt = go (has xs y) refl
  where
    go : (t : Bool) → has xs y ≡ t → t ≡ false
    go false e = refl
    go true e = absurd (omega (arith, lt, has_above xs b y r e))

has_rest : (x y : ℕ) (xs : List ℕ) → eqb y x ≡ false → has (x ∷ xs) y ≡ has xs y
has_rest x y xs e = ap (λ b. b || has xs y) e

-- rising numbers are told by which they are
pub same_numbers : (a : ℕ) (xs ys : List ℕ) → RisesFrom a xs → RisesFrom a ys → ((n : ℕ) → has xs n ≡ has ys n) → xs ≡ ys
same_numbers a [] [] r s same = refl
same_numbers a [] (y ∷ ys) r s same = absurd (false≢true (same y ∙ has_itself ys y))
same_numbers a (x ∷ xs) [] r s same = absurd (false≢true (sym (same x) ∙ has_itself xs x))
same_numbers a (x ∷ xs) (y ∷ ys) r s same =
    let above : y ≤ x = has_above (y ∷ ys) y x (omega arith, s.1) (sym (same x) ∙ has_itself xs x) in
    let below : x ≤ y = has_above (x ∷ xs) x y (omega arith, r.1) (same y ∙ has_itself ys y) in
    let first : x ≡ y = omega (arith, above, below) in
    let rest : xs ≡ ys = same_numbers (x + 1) xs ys r.1 (ap_from first s.1) (tails first) in
    cc
  where
    ap_from : x ≡ y → RisesFrom (y + 1) ys → RisesFrom (x + 1) ys
    ap_from e t = later (x + 1) (y + 1) ys (omega (arith, e)) t

    tails : x ≡ y → (n : ℕ) → has xs n ≡ has ys n
    tails e n = go (eqb n x) refl
      where
        go : (t : Bool) → eqb n x ≡ t → has xs n ≡ has ys n
        go true is =
            let at : n ≡ x = grind (arith, nat_tests) in
            none_below xs (x + 1) n r.1 (omega (arith, at)) ∙ sym (none_below ys (y + 1) n s.1 (omega (arith, at, e)))
        go false is =
            let other : eqb n y ≡ false = rw (sym e) is in
            sym (has_rest x n xs is) ∙ same n ∙ has_rest y n ys other
