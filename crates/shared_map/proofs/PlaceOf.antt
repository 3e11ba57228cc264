-- The place of the first pair within a cut: behind all pairs before the cut.
use Rattle.std.proofs.Common.{◌≡◌, ℕ, ◌+◌, ◌⊎◌, inl, inr, Bool, false, cond, List, [], ◌∷◌, length, Option, Some, None, Bor, refl, sym, ◌∙◌, ap, arith}
use Rattle.std.specs.Prelude.{slice_get, position}
use Rattle.std.specs.Option.{option_copied}
use Rattle.std.proofs.lemmas.Iterator.Adapters.{position_from-zero}
use Rattle.std.specs.List.{position_from}
use Rattle.std.specs.declared.cmp.Ordering.{Ordering}
use Rattle.std.specs.declared.cmp.Ordering.TheVariants.{Less, Equal, Greater}
use Rattle.std.specs.Ordering.{is_lt, is_eq}
use Rattle.shared_map.specs.Pairs.{Each, IsSorted}
use Rattle.shared_map.specs.Cuts.{IsCut, before}
use Rattle.shared_map.proofs.Lists.{Each-along}
use Rattle.shared_map.proofs.Places.{before_less, before_later}

-- an answer that is none of a cut's
pub is_other : (o p : Ordering) → (o ≡ Less) ⊎ (o ≡ Greater) → o ≡ p → is_eq p ≡ false
is_other o p (inl less) e = ap is_eq (sym e ∙ less)
is_other o p (inr greater) e = ap is_eq (sym e ∙ greater)

-- the number, where the item passes
abbrev chosen : {X : Type 0} → (X → Bool) → ℕ → Option X → Option ℕ
chosen test k None = None
chosen test k (Some x) = cond (test x) (Some k) None

none_from : {X : Type 0} (test : X → Bool) (xs : List X) (i : ℕ) → Each (λ x. test x ≡ false) xs → position_from test i xs ≡ None
none_from test [] i all = refl
none_from test (x ∷ xs) i all = rw all.0 (none_from test xs (i + 1) all.1)

module _ {K V : Type 0} {cmp : K → K → Ordering} {place : K → Ordering} (cut : IsCut cmp place) where
  behind_none : (x : K × V) (xs : List (K × V)) (i : ℕ) → IsSorted cmp (x ∷ xs) → place x.0 ≡ Greater → position_from (λ (p : K × V). is_eq (place p.0)) i xs ≡ None
  behind_none x xs i sorted e = none_from (λ (p : K × V). is_eq (place p.0)) xs i
      (Each-along (λ p. cmp x.0 p.0 ≡ Less) (λ p. is_eq (place p.0) ≡ false) (λ p rise. ap is_eq (cut.behind x.0 p.0 rise e)) xs sorted.0)

  pub placed : (xs : List (K × V)) → IsSorted cmp xs → (i : ℕ)
      → position_from (λ p. is_eq (place p.0)) i xs ≡ chosen (λ p. is_eq (place p.0)) (i + length (before place xs)) (slice_get xs (length (before place xs)))
  placed [] sorted i = refl
  placed (x ∷ xs) sorted i = go (place x.0) refl (placed xs sorted.1 (i + 1))
    where
      go : (o : Ordering) → place x.0 ≡ o
          → position_from (λ p. is_eq (place p.0)) (i + 1) xs ≡ chosen (λ p. is_eq (place p.0)) (i + 1 + length (before place xs)) (slice_get xs (length (before place xs)))
          → position_from (λ p. is_eq (place p.0)) i (x ∷ xs) ≡ chosen (λ p. is_eq (place p.0)) (i + length (before place (x ∷ xs))) (slice_get (x ∷ xs) (length (before place (x ∷ xs))))
      go Less e rest =
          let sum : i + 1 + length (before place xs) ≡ i + length (x ∷ before place xs) = omega arith in
          ap (λ o. cond (is_eq o) (Some i) (position_from (λ (p : K × V). is_eq (place p.0)) (i + 1) xs)) e
          ∙ rest
          ∙ ap (λ n. chosen (λ (p : K × V). is_eq (place p.0)) n (slice_get xs (length (before place xs)))) sum
          ∙ ap (λ (ys : List (K × V)). chosen (λ (p : K × V). is_eq (place p.0)) (i + length ys) (slice_get (x ∷ xs) (length ys))) (sym (before_less cut (x ∷ xs) [] x xs refl sorted e))
      go Equal e rest =
          let sum : i ≡ i + 0 = omega arith in
          ap (λ o. cond (is_eq o) (Some i) (position_from (λ (p : K × V). is_eq (place p.0)) (i + 1) xs)) e
          ∙ ap (λ n. Some n) sum
          ∙ ap (λ o. cond (is_eq o) (Some (i + 0)) None) (sym e)
          ∙ ap (λ (ys : List (K × V)). chosen (λ (p : K × V). is_eq (place p.0)) (i + length ys) (slice_get (x ∷ xs) (length ys))) (sym (before_later cut (x ∷ xs) [] x xs refl sorted (ap is_lt e)))
      go Greater e rest =
          ap (λ o. cond (is_eq o) (Some i) (position_from (λ (p : K × V). is_eq (place p.0)) (i + 1) xs)) e
          ∙ behind_none x xs (i + 1) sorted e
          ∙ ap (λ o. cond (is_eq o) (Some (i + 0)) None) (sym e)
          ∙ ap (λ (ys : List (K × V)). chosen (λ (p : K × V). is_eq (place p.0)) (i + length ys) (slice_get (x ∷ xs) (length ys))) (sym (before_later cut (x ∷ xs) [] x xs refl sorted (ap is_lt e)))

  module _ (xs : List (K × V)) (sorted : IsSorted cmp xs) (n : ℕ) (is : n ≡ length (before place xs)) where
    none_first : 0 + length (before place xs) ≡ length (before place xs)
    none_first = omega arith

    at_first : position (λ (p : K × V). is_eq (place p.0)) xs ≡ chosen (λ p. is_eq (place p.0)) n (slice_get xs n)
    at_first =
        position_from-zero (λ (p : K × V). is_eq (place p.0)) xs
        ∙ placed xs sorted 0
        ∙ ap (λ m. chosen (λ (p : K × V). is_eq (place p.0)) m (slice_get xs (length (before place xs)))) none_first
        ∙ ap (λ m. chosen (λ (p : K × V). is_eq (place p.0)) m (slice_get xs m)) (sym is)

    pub not_placed : (r : Option (Bor (K × V))) → option_copied r ≡ slice_get xs n → r ≡ None → position (λ (p : K × V). is_eq (place p.0)) xs ≡ None
    not_placed r got none = at_first ∙ ap (chosen (λ (p : K × V). is_eq (place p.0)) n) (sym got ∙ ap option_copied none)

    pub is_placed : (r : Option (Bor (K × V))) (b : Bor (K × V)) (t : Bool) → option_copied r ≡ slice_get xs n → r ≡ Some b
        → is_eq (place b.now.0) ≡ t → position (λ (p : K × V). is_eq (place p.0)) xs ≡ cond t (Some n) None
    is_placed r b t got some lies =
        at_first
        ∙ ap (chosen (λ (p : K × V). is_eq (place p.0)) n) (sym got ∙ ap option_copied some)
        ∙ ap (λ p. cond p (Some n) None) lies
