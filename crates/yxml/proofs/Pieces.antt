-- What holds of the pieces of a text.
use Rattle.std.proofs.Common.{◌≡◌, ℕ, List, [], ◌∷◌, Bool, true, false, refl, sym, subst}
use Rattle.std.specs.List.{AllByRecursion, slice_split, onto_first}
use Rattle.std.proofs.lemmas.List.Splits.{slice_split-cons_yes, slice_split-cons_no}

module _ (p : ℕ → Bool) (P : ℕ → Type 0) where
  -- a piece is made of what the text is made of, and has no separator
  abbrev pub IsPiece : List ℕ → Type 0
  IsPiece piece = AllByRecursion P piece × AllByRecursion (λ b. p b ≡ false) piece

  onto : (x : ℕ) → P x → p x ≡ false → (pieces : List (List ℕ)) → AllByRecursion IsPiece pieces → AllByRecursion IsPiece (onto_first x pieces)
  onto x h e [] all = (((h, tt), (e, tt)), tt)
  onto x h e (piece ∷ pieces) all = (((h, all.0.0), (e, all.0.1)), all.1)

  step : (x : ℕ) (xs : List ℕ) → P x → AllByRecursion IsPiece (slice_split p xs) → (b : Bool) → p x ≡ b → AllByRecursion IsPiece (slice_split p (x ∷ xs))
  step x xs h rest true e = subst (AllByRecursion IsPiece) (sym (slice_split-cons_yes p x xs e)) ((tt, tt), rest)
  step x xs h rest false e = subst (AllByRecursion IsPiece) (sym (slice_split-cons_no p x xs e)) (onto x h e _ rest)

  pub each-piece : (bs : List ℕ) → AllByRecursion P bs → AllByRecursion IsPiece (slice_split p bs)
  each-piece [] h = ((tt, tt), tt)
  each-piece (x ∷ xs) h = step x xs h.0 (each-piece xs h.1) (p x) refl

pub all-true : (bs : List ℕ) → AllByRecursion (λ _. Unit {0}) bs
all-true [] = tt
all-true (b ∷ bs) = (tt, all-true bs)
