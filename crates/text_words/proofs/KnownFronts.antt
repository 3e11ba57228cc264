-- The longest front with a form is one, and the search from the whole text down finds it.
use Rattle.std.proofs.Common.{◌≡◌, ℕ, suc, zero, ◌<◌, ◌≤◌, Bool, true, false, List, [], length, take, Option, Some, None, sym, refl, ap, ◌∙◌, ⊎_elim, arith}
use Rattle.std.specs.Prelude.{IsTrue, if◌then◌else◌}
use Rattle.std.proofs.lemmas.Bool.{both_ways, cases_lt}
use Rattle.text_words.specs.Longest.{IsLongest, HasNoFront, FindsLongest, longest_upto, longest_front}

-- two longest fronts of one text are equally long
pub same-length : (Form : List ℕ → Type 0) (text : List ℕ) (m n : ℕ) → IsLongest Form text m → IsLongest Form text n → m ≡ n
same-length Form text m n one other =
    let below : m ≤ n = other.longest m one.within one.fits in
    let above : n ≤ m = one.longest n other.within other.fits in
    omega arith

-- there is one answer
pub one-front : (Form : List ℕ → Type 0) (text : List ℕ) (a b : Option ℕ) → FindsLongest Form text a → FindsLongest Form text b → a ≡ b
one-front Form text None None one other = refl
one-front Form text None (Some n) one other = absurd (one n other.within other.fits)
one-front Form text (Some m) None one other = absurd (other m one.within one.fits)
one-front Form text (Some m) (Some n) one other = ap Some (same-length Form text m n one other)

module _ (form : List ℕ → Bool) (text : List ℕ) where
  -- above n no front has the form
  NoneAbove : ℕ → Type 0
  NoneAbove n = (m : ℕ) → n < m → m ≤ length text → IsTrue (form (take m text)) → ⊥

  here : (n : ℕ) → n ≤ length text → NoneAbove n → IsTrue (form (take n text)) → IsLongest (λ s. IsTrue (form s)) text n
  unfolding NoneAbove
  here n within above fits = record {
    within = within;
    fits = fits;
    longest = λ m inside fit. ⊎_elim (λ more. absurd (above m more inside fit)) (λ less. less) (cases_lt n m);
  }

  below : (n : ℕ) → form (take (suc n) text) ≡ false → NoneAbove (suc n) → NoneAbove n
  unfolding NoneAbove
  below n other above m more inside fit =
      ⊎_elim (λ greater. above m greater inside fit)
      (λ (least : m ≤ suc n). let same : m ≡ suc n = omega arith in both_ways (form (take (suc n) text)) other (ap (λ k. form (take k text)) (sym same) ∙ fit))
      (cases_lt (suc n) m)

  none-at-all : form [] ≡ false → NoneAbove 0 → HasNoFront (λ s. IsTrue (form s)) text
  unfolding NoneAbove
  none-at-all other above zero inside fit = both_ways (form []) other fit
  none-at-all other above (suc m) inside fit = above (suc m) (omega arith) inside fit

  search : (n : ℕ) → n ≤ length text → NoneAbove n → FindsLongest (λ s. IsTrue (form s)) text (longest_upto form text n)
  search zero within above = go (form []) refl where
    go : (b : Bool) → form [] ≡ b → FindsLongest (λ s. IsTrue (form s)) text (if b then Some 0 else None)
    go true fits = here 0 within above fits
    go false other = none-at-all other above
  search (suc n) within above =
      go (form (take (suc n) text)) refl (λ other. search n (omega arith) (below n other above)) where
        go : (b : Bool) → form (take (suc n) text) ≡ b
            → (b ≡ false → FindsLongest (λ s. IsTrue (form s)) text (longest_upto form text n))
            → FindsLongest (λ s. IsTrue (form s)) text (if b then Some (suc n) else longest_upto form text n)
        go true fits rest = here (suc n) within above fits
        go false other rest = rest refl

  nothing-above : NoneAbove (length text)
  unfolding NoneAbove
  nothing-above m more inside fit = omega arith

-- the search finds the longest front
pub found-front : (form : List ℕ → Bool) (text : List ℕ) → FindsLongest (λ s. IsTrue (form s)) text (longest_front form text)
found-front form text = search form text (length text) (omega arith) (nothing-above form text)
