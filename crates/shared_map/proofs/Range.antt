-- The three parts of sorted pairs at a cut.
use Rattle.std.proofs.Common.{◌≡◌, ℕ, suc, ◌-◌, ◌+◌, ◌<◌, ◌≤◌, add-one, Some, false, cond, List, [], ◌∷◌, ◌++◌, length, take, drop, refl, sym, ◌∙◌, ap, arith, length-append}
use Rattle.std.proofs.Math.Seq.{drop-append_seam, take-append_seam, drop-cons}
use Rattle.std.specs.Prelude.{slice_get}
use Rattle.std.proofs.lemmas.Option.{get_or_from_slice_get}
use Rattle.std.specs.declared.cmp.Ordering.{Ordering}
use Rattle.std.specs.declared.cmp.Ordering.TheVariants.{Less, Equal, Greater}
use Rattle.std.specs.Ordering.{is_lt, is_eq, is_gt}
use Rattle.shared_map.specs.Pairs.{Each, IsSorted}
use Rattle.shared_map.specs.Cuts.{IsCut, before, within, behind}
use Rattle.shared_map.proofs.Lists.{Each-along, filter_none}

module _ {K V : Type 0} {cmp : K → K → Ordering} {place : K → Ordering} (cut : IsCut cmp place) where
  not_before : (x : K × V) (xs : List (K × V)) → Each (λ p. cmp x.0 p.0 ≡ Less) xs → (place x.0 ≡ Less → ⊥) → before place xs ≡ []
  not_before x xs above later =
      filter_none (λ p. is_lt (place p.0)) xs
      (Each-along (λ p. cmp x.0 p.0 ≡ Less) (λ p. is_lt (place p.0) ≡ false) (λ p rise. go (place p.0) (cut.before x.0 p.0 rise)) xs above)
    where
      go : (o : Ordering) → (o ≡ Less → place x.0 ≡ Less) → is_lt o ≡ false
      go Less so = absurd (later (so refl))
      go Equal so = refl
      go Greater so = refl

  pub parted : (xs : List (K × V)) → IsSorted cmp xs → xs ≡ before place xs ++ (within place xs ++ behind place xs)
  parted [] sorted = refl
  parted (x ∷ xs) sorted = go (place x.0) refl (parted xs sorted.1)
    where
      go : (o : Ordering) → place x.0 ≡ o → xs ≡ before place xs ++ (within place xs ++ behind place xs)
          → (x ∷ xs) ≡ cond (is_lt o) (x ∷ before place xs) (before place xs)
          ++ (cond (is_eq o) (x ∷ within place xs) (within place xs) ++ cond (is_gt o) (x ∷ behind place xs) (behind place xs))
      go Less e rest = ap (λ l. x ∷ l) rest
      go Equal e rest =
          let none : before place xs ≡ [] = not_before x xs sorted.0 (λ less. cc (sym e ∙ less)) in
          ap (λ l. x ∷ l) (rest ∙ ap (λ front. front ++ (within place xs ++ behind place xs)) none)
          ∙ sym (ap (λ front. front ++ (x ∷ within place xs ++ behind place xs)) none)
      go Greater e rest =
          let none : before place xs ≡ [] = not_before x xs sorted.0 (λ less. cc (sym e ∙ less)) in
          let out : within place xs ≡ [] =
          filter_none (λ p. is_eq (place p.0)) xs
          (Each-along (λ p. cmp x.0 p.0 ≡ Less) (λ p. is_eq (place p.0) ≡ false) (λ p rise. ap is_eq (cut.behind x.0 p.0 rise e)) xs sorted.0) in
          ap (λ l. x ∷ l)
          (rest ∙ ap (λ front. front ++ (within place xs ++ behind place xs)) none ∙ ap (λ middle. middle ++ behind place xs) out)
          ∙ sym (ap (λ front. front ++ (within place xs ++ x ∷ behind place xs)) none ∙ ap (λ middle. middle ++ x ∷ behind place xs) out)

-- the part between two counts
taken_middle : {X : Type 0} (a b c all : List X) → all ≡ a ++ (b ++ c) → take ((length all - length c) - length a) (drop (length a) all) ≡ b
taken_middle a b c all e =
    let n : (length all - length c) - length a ≡ length b = omega (arith, ap length e, length-append a (b ++ c), length-append b c) in
    ap (λ k. take k (drop (length a) all)) n
    ∙ ap (λ l. take (length b) (drop (length a) l)) e
    ∙ ap (take (length b)) (drop-append_seam a (b ++ c))
    ∙ take-append_seam b c

module _ {K V : Type 0} {cmp : K → K → Ordering} {place : K → Ordering} (cut : IsCut cmp place) where
  pub range_is : (xs : List (K × V)) → IsSorted cmp xs → (all from after : ℕ) → all ≡ length xs
      → from ≡ length (before place xs) → after ≡ length (behind place xs)
      → take ((all - after) - from) (drop from xs) ≡ within place xs
  range_is xs sorted all from after a f b =
      ap (λ n. take ((n - after) - from) (drop from xs)) a
      ∙ ap (λ n. take ((length xs - n) - from) (drop from xs)) b
      ∙ ap (λ n. take ((length xs - length (behind place xs)) - n) (drop n xs)) f
      ∙ taken_middle (before place xs) (within place xs) (behind place xs) xs (parted cut xs sorted)

-- the part between two places, from its first item on
pub stepped : {X : Type 0} (xs : List X) (from to : ℕ) (x : X) → from < to → to ≤ length xs → Some x ≡ slice_get xs from
    → take (to - from) (drop from xs) ≡ x ∷ take (to - (from + 1)) (drop (from + 1) xs)
stepped xs from to x less within is =
    let inside : from < length xs = omega arith in
    let more : to - from ≡ suc (to - (from + 1)) = omega arith in
    ap (λ n. take n (drop from xs)) more
    ∙ ap (take (suc (to - (from + 1))))
    (drop-cons xs from x inside ∙ ap (λ y. y ∷ drop (suc from) xs) (get_or_from_slice_get xs from x x (sym is)))
    ∙ ap (λ n. x ∷ take (to - (from + 1)) (drop n xs)) (sym (add-one from))

-- the rest of a list from a place within it, from its first item on
pub dropped : {X : Type 0} (xs : List X) (from len : ℕ) (x : X) → from < len → len ≡ length xs → Some x ≡ slice_get xs from
    → drop from xs ≡ x ∷ drop (from + 1) xs
dropped xs from len x less is item =
    let inside : from < length xs = omega arith in
    drop-cons xs from x inside ∙ ap (λ y. y ∷ drop (suc from) xs) (get_or_from_slice_get xs from x x (sym item))
    ∙ ap (λ n. x ∷ drop n xs) (sym (add-one from))
