-- What the longest identifier at a place tells of the longest named symbol there.
use Rattle.std.proofs.Common.{◌≡◌, ℕ, suc, zero, Option, Some, None, ◌+◌, ◌<◌, ◌≤◌, List, [], ◌∷◌, ◌++◌, length, get_or, take, sym, refl, ap, ◌∙◌, subst, inl, inr, ⊎_elim, arith, length-take-le, get_or-take}
use Rattle.std.specs.Char.{is_ascii_alphabetic}
use Rattle.std.proofs.lemmas.Bool.{both_ways, cases_lt}
use Rattle.std.proofs.lemmas.List.{take_more, get_or_at}
use Rattle.text_words.specs.Identifier.{is_identifier_part, IsIdentifier}
use Rattle.text_words.specs.Longest.{IsLongest, HasNoFront, FindsLongest}
use Rattle.text_words.proofs.KnownIdentifiers.{identifier-parts}
use Rattle.outer_syntax.specs.Names.{IsClosedName, IsMarkedName, IsNamedSymbol}
use Rattle.outer_syntax.proofs.KnownSplits.{front-part}

module _ {s : List ℕ} {n : ℕ} (name_is : IsLongest IsIdentifier s n) where
  -- the name and the `>` after it
  pub closed-some : n < length s → get_or s n 0 ≡ 62 → IsLongest IsClosedName s (n + 1)
  closed-some inside closes = record {
    within = omega arith;
    fits = (take n s, name_is.fits, take_more s n 0 inside ∙ ap (λ c. take n s ++ c ∷ []) closes);
    longest = λ m within closed.
        let part = front-part s m closed.0 (62 ∷ []) within closed.2 in
        omega (arith, part.1, name_is.longest (length closed.0) (omega (arith, part.1)) (subst IsIdentifier (sym part.0) closed.1));
  }

  -- another scalar comes after the longest name, so no shorter one is closed either
  pub closed-stop : (n < length s → get_or s n 0 ≡ 62 → ⊥) → HasNoFront IsClosedName s
  closed-stop open_end m within closed =
      let part = front-part s m closed.0 (62 ∷ []) within closed.2 in
      let k : ℕ = length closed.0 in
      let upto : k ≤ n = name_is.longest k (omega (arith, part.1)) (subst IsIdentifier (sym part.0) closed.1) in
      let closes : get_or s k 0 ≡ 62 = sym (get_or-take m s k 0 (omega (arith, part.1))) ∙ ap (λ x. get_or x k 0) closed.2 ∙ get_or_at closed.0 62 [] 0 k refl in
      ⊎_elim
      (λ (below : k < n). both_ways (is_identifier_part 62) refl (ap is_identifier_part (sym closes ∙ sym (get_or-take n s k 0 below)) ∙ identifier-parts (take n s) name_is.fits k 0 (omega (arith, length-take-le n s name_is.within))))
      (λ (above : n ≤ k). let same : k ≡ n = omega arith in open_end (omega (arith, part.1)) (ap (λ i. get_or s i 0) (sym same) ∙ closes))
      (cases_lt k n)

-- no name is closed where no name begins
pub closed-none : (s : List ℕ) → HasNoFront IsIdentifier s → HasNoFront IsClosedName s
closed-none s none m within closed =
    let part = front-part s m closed.0 (62 ∷ []) within closed.2 in
    none (length closed.0) (omega (arith, part.1)) (subst IsIdentifier (sym part.0) closed.1)

-- a closed name doesn't begin with `^`
pub no-caret : (closed rest : List ℕ) → IsClosedName closed → closed ≡ 94 ∷ rest → ⊥
no-caret closed rest ([], id, e) starts = id
no-caret closed rest (c ∷ cs, id, e) starts =
    let same : c ≡ 94 = cc in both_ways (is_ascii_alphabetic 94) refl (ap is_ascii_alphabetic (sym same) ∙ id.0)

caret-front : (m : ℕ) (name : List ℕ) → IsMarkedName (take (suc m) (94 ∷ name)) → IsClosedName (take m name)
caret-front m name (inl closed) = absurd (no-caret (94 ∷ take m name) (take m name) closed refl)
caret-front m name (inr marked) = let same : take m name ≡ marked.0 = cc (marked.2) in subst IsClosedName (sym same) marked.1

-- `^` and a closed name
pub caret-some : (name : List ℕ) (n : ℕ) → IsLongest IsClosedName name n → IsLongest IsMarkedName (94 ∷ name) (suc n)
caret-some name n closed = record {
  within = omega (arith, closed.within);
  fits = inr (take n name, closed.fits, refl);
  longest = go;
} where
  go : (m : ℕ) → m ≤ suc (length name) → IsMarkedName (take m (94 ∷ name)) → m ≤ suc n
  go zero within fits = omega arith
  go (suc m) within fits = omega (arith, closed.longest m (omega arith) (caret-front m name fits))

nothing-marked : IsMarkedName [] → ⊥
nothing-marked (inl ([], id, e)) = id
nothing-marked (inl (c ∷ cs, id, e)) = cc
nothing-marked (inr marked) = cc (marked.2)

pub caret-none : (name : List ℕ) → HasNoFront IsClosedName name → HasNoFront IsMarkedName (94 ∷ name)
caret-none name none zero within fits = nothing-marked fits
caret-none name none (suc m) within fits = none m (omega arith) (caret-front m name fits)

-- without a `^` a marked name is a closed one
plain-front : (s : List ℕ) → (0 < length s → get_or s 0 0 ≡ 94 → ⊥) → (m : ℕ) → IsMarkedName (take m s) → IsClosedName (take m s)
plain-front s plain m (inl closed) = closed
plain-front [] plain zero (inr marked) = absurd (nothing-marked (inr marked))
plain-front [] plain (suc m) (inr marked) = absurd (nothing-marked (inr marked))
plain-front (c ∷ cs) plain zero (inr marked) = absurd (nothing-marked (inr marked))
plain-front (c ∷ cs) plain (suc m) (inr marked) = absurd (plain (omega arith) (cc (marked.2)))

pub plain-finds : (s : List ℕ) (found : Option ℕ) → (0 < length s → get_or s 0 0 ≡ 94 → ⊥) → FindsLongest IsClosedName s found → FindsLongest IsMarkedName s found
plain-finds s None plain none = λ m within fits. none m within (plain-front s plain m fits)
plain-finds s (Some n) plain closed = record {
  within = closed.within;
  fits = inl closed.fits;
  longest = λ m within fits. closed.longest m within (plain-front s plain m fits);
}

named-front : (m : ℕ) (marked : List ℕ) → IsNamedSymbol (take (suc (suc m)) (92 ∷ 60 ∷ marked)) → IsMarkedName (take m marked)
named-front m marked named = let same : take m marked ≡ named.0 = cc (named.2) in subst IsMarkedName (sym same) named.1

-- `\<` and a marked name
pub named-some : (marked : List ℕ) (n : ℕ) → IsLongest IsMarkedName marked n → IsLongest IsNamedSymbol (92 ∷ 60 ∷ marked) (suc (suc n))
named-some marked n is = record {
  within = omega (arith, is.within);
  fits = (take n marked, is.fits, refl);
  longest = go;
} where
  go : (m : ℕ) → m ≤ suc (suc (length marked)) → IsNamedSymbol (take m (92 ∷ 60 ∷ marked)) → m ≤ suc (suc n)
  go zero within fits = omega arith
  go (suc zero) within fits = omega arith
  go (suc (suc m)) within fits = omega (arith, is.longest m (omega arith) (named-front m marked fits))

pub named-none : (marked : List ℕ) → HasNoFront IsMarkedName marked → HasNoFront IsNamedSymbol (92 ∷ 60 ∷ marked)
named-none marked none zero within fits = cc (fits.2)
named-none marked none (suc zero) within fits = cc (fits.2)
named-none marked none (suc (suc m)) within fits = none m (omega arith) (named-front m marked fits)
