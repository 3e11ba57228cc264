-- What is told of one node more is gathered.
use Rattle.std.proofs.Common.{◌≡◌, ℕ, ◌+◌, ◌-◌, ◌<◌, ◌≤◌, eqb, false, List, [], ◌∷◌, ◌++◌, length, get_or, set, take, drop, All, Option, None, Some, ◌≢◌, get_or-set_other, get_or-append-add, length-set, length-append, append_assoc, refl, sym, ap, subst, ◌∙◌, arith}
use Rattle.std.specs.List.{filter_map, cons_option}
use Rattle.std.proofs.lemmas.Bool.{or_parts}
use Rattle.std.proofs.lemmas.Bool.Decides.{nat_tests}
use Rattle.std.proofs.lemmas.List.Elements.{filter_map-append}
use Rattle.text_words.specs.Members.{has}
use Rattle.text_words.proofs.KnownMembers.{has_both}
use Rattle.pide_build.specs.Standing.{AreOnce}

-- the first of the rest is one of all
pub first_of : (n : ℕ) (places front rest : List ℕ) → places ≡ front ++ rest → All (λ p. p < n) places → 1 ≤ length rest → get_or rest 0 0 < n
first_of n places front rest parts all some =
    let one = subst (All (λ p. p < n)) parts all (length front + 0) 0 in
    let long = length-append front rest in
    subst (λ p. p < n) (get_or-append-add front rest 0 0) (one (omega arith))

-- the rest is its first and the others
pub cut_first : (rest : List ℕ) → 1 ≤ length rest → rest ≡ get_or rest 0 0 ∷ take (length rest - 1) (drop 1 rest)
cut_first [] some = absurd (omega arith)
cut_first (p ∷ ps) some = ap (λ xs. p ∷ xs) (whole ps (length (p ∷ ps) - 1) (omega arith))
  where
    whole : (xs : List ℕ) (n : ℕ) → n ≡ length xs → xs ≡ take n xs
    whole xs n long = sym (ap (λ k. take k xs) long ∙ all xs)
      where
        all : (xs : List ℕ) → take (length xs) xs ≡ xs
        all [] = refl
        all (x ∷ xs) = ap (λ ys. x ∷ ys) (all xs)

-- an answer that is no value is none
pub no_value : {X : Type 0} (o : Option X) → ((x : X) → o ≢ Some x) → o ≡ None
no_value None other = refl
no_value (Some x) other = absurd (other x refl)

module _ {M : Type 0} (told : List (Option M)) (places : List ℕ) where
  abbrev pub at : ℕ → Option M
  at p = get_or told p None

  -- what is told of a front of them is gathered, and the rest is still there
  abbrev pub AreGathered : List ℕ → List M → List (Option M) → Type 0
  AreGathered rest all now = (front : List ℕ) × (places ≡ front ++ rest) × (all ≡ filter_map at front)
      × ((q : ℕ) → has front q ≡ false → get_or now q None ≡ get_or told q None) × (length now ≡ length told)

  pub one_gathered : (rest more : List ℕ) (all new : List M) (now left : List (Option M)) (p : ℕ)
      → AreOnce places → AreGathered rest all now → rest ≡ p ∷ more → new ≡ all ++ cons_option (get_or now p None) []
      → left ≡ set now p None → AreGathered more new left
  one_gathered rest more all new now left p once (front, parts, are, kept, long) cut pushed taken =
      let parts_so : places ≡ front ++ p ∷ more = parts ∙ ap (λ xs. front ++ xs) cut in
      let here : get_or now p None ≡ get_or told p None = kept p (once front more p parts_so) in (
        front ++ p ∷ [],
        parts_so ∙ sym (append_assoc front (p ∷ []) more),
        pushed ∙ ap (λ xs. xs ++ cons_option (get_or now p None) []) are
            ∙ ap (λ o. filter_map at front ++ cons_option o []) here ∙ sym (filter_map-append at front (p ∷ [])),
        (λ q out. by q (or_parts (has front q) (has (p ∷ []) q) (sym (has_both front (p ∷ []) q) ∙ out))),
        ap length taken ∙ length-set now p None ∙ long,
      )
    where
      by : (q : ℕ) → (has front q ≡ false) × (has (p ∷ []) q ≡ false) → get_or left q None ≡ get_or told q None
      by q (before, beside) =
          let apart : eqb q p ≡ false = (or_parts (eqb q p) false beside).0 in
          let other : q ≡ p → ⊥ = grind (arith, nat_tests) in
          ap (λ xs. get_or xs q None) taken ∙ get_or-set_other now p q None None other ∙ kept q before
