-- Steps of the loops over places.
use Rattle.std.proofs.Common.{◌≡◌, ℕ, ◌+◌, ◌<◌, eqb, Bool, true, false, ◌||◌, List, Option, Some, None, length, get_or, set, take, refl, sym, ap, subst, ◌∙◌, inl, inr, arith, get_or-set_same, get_or-set_other}
use Rattle.std.proofs.lemmas.Bool.{cases_lt}
use Rattle.std.proofs.lemmas.Bool.Decides.{nat_tests}
use Rattle.std.proofs.lemmas.List.{get_or_default}
use Rattle.std.proofs.lemmas.List.Folds.{list_any_more}
use Rattle.std.proofs.Math.Bool.{or_assoc, or-true, or-false}
use Rattle.text_words.specs.Members.{has}
use Rattle.doc_nodes.specs.Rounds.{is_known}
use Rattle.doc_nodes.specs.Looks.{marked, met_by, AreMarks}
use Rattle.text_words.proofs.KnownMembers.{has_contained}

marked_set : (m : List Bool) (q p : ℕ) → q < length m → marked (set m q true) p ≡ (marked m p || eqb p q)
marked_set m q p lt = go (eqb p q) refl
  where
    go : (b : Bool) → eqb p q ≡ b → marked (set m q true) p ≡ (marked m p || b)
    go true e = let same : p ≡ q = grind (arith, nat_tests) in rw same (get_or-set_same m q true false lt ∙ sym (or-true _))
    go false e = let other : p ≡ q → ⊥ = grind (arith, nat_tests) in get_or-set_other m q p true false other ∙ sym (or-false _)

-- one more place is marked
pub marked_more : (m old : List Bool) (xs : List ℕ) (k p : ℕ) → k < length xs → get_or xs k 0 < length m
    → marked m p ≡ (marked old p || has (take k xs) p)
    → marked (set m (get_or xs k 0) true) p ≡ (marked old p || has (take (k + 1) xs) p)
marked_more m old xs k p lt within before =
    marked_set m (get_or xs k 0) p within
    ∙ ap (λ b. b || eqb p (get_or xs k 0)) before
    ∙ or_assoc (marked old p) (has (take k xs) p) (eqb p (get_or xs k 0))
    ∙ ap (λ b. marked old p || b) (sym (list_any_more (eqb p) xs k 0 lt))

-- what was added for each place before i, and for that at i
pub added_more : (P : ℕ → Type 0) (xs new : List ℕ) (i : ℕ) → i < length xs
    → ((k d : ℕ) → k < i → P (get_or xs k d) → has new (get_or xs k d) ≡ true)
    → (P (get_or xs i 0) → has new (get_or xs i 0) ≡ true)
    → (k d : ℕ) → k < i + 1 → P (get_or xs k d) → has new (get_or xs k d) ≡ true
added_more P xs new i lt before here k d below due = elim (cases_lt k i) [
  | inl less ↦ before k d less due
  | inr at_least ↦
      let same : k ≡ i = omega arith in
      let is : get_or xs k d ≡ get_or xs i 0 = ap (λ q. get_or xs q d) same ∙ get_or_default xs i d 0 lt in
      subst (λ z. has new z ≡ true) (sym is) (here (subst P is due))
]

-- what was added for each place was added for each that the list has
pub added_all : (P : ℕ → Type 0) (xs new : List ℕ)
    → ((k d : ℕ) → k < length xs → P (get_or xs k d) → has new (get_or xs k d) ≡ true)
    → (p : ℕ) → has xs p ≡ true → P p → has new p ≡ true
added_all P xs new each p h due =
    let c = has_contained xs p h in
    subst (λ z. has new z ≡ true) c.2 (each c.0 p c.1 (subst P (sym c.2) due))

-- what is new came now or before
pub sound_more : (Q : ℕ → Type 0) (old mid new : List ℕ)
    → ((p : ℕ) → has mid p ≡ true → has old p ≡ false → Q p)
    → ((p : ℕ) → has new p ≡ true → has mid p ≡ false → Q p)
    → (p : ℕ) → has new p ≡ true → has old p ≡ false → Q p
sound_more Q old mid new before now p h fresh = go (has mid p) refl
  where
    go : (b : Bool) → has mid p ≡ b → Q p
    go true e = before p e fresh
    go false e = now p h e

-- what was added for each place before n, and for n
pub added_next : (P : ℕ → Type 0) (new : List ℕ) (n : ℕ) → ((p : ℕ) → p < n → P p → has new p ≡ true) → (P n → has new n ≡ true) → (p : ℕ) → p < n + 1 → P p → has new p ≡ true
added_next P new n before here p lt due = elim (cases_lt p n) [
  | inl less ↦ before p less due
  | inr at_least ↦
      let same : p ≡ n = omega arith in
      subst (λ z. has new z ≡ true) (sym same) (here (subst P same due))
]

-- each of the new places has the property, where the old ones have it
pub sound_all : (Q : ℕ → Type 0) (old new : List ℕ) → ((p : ℕ) → has old p ≡ true → Q p) → ((p : ℕ) → has new p ≡ true → has old p ≡ false → Q p) → (p : ℕ) → has new p ≡ true → Q p
sound_all Q old new before now p h = go (has old p) refl
  where
    go : (b : Bool) → has old p ≡ b → Q p
    go true e = before p e
    go false e = now p h e

-- marked imports are ordered ones
pub met_is_known : (marks : List Bool) (ordered : List ℕ) → AreMarks marks ordered → (aim : Option ℕ) → met_by marks aim ≡ is_known ordered aim
met_is_known marks ordered are None = refl
met_is_known marks ordered are (Some p) = are p
