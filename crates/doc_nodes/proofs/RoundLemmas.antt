-- The next round by marks.
use Rattle.std.proofs.Common.{◌≡◌, ℕ, zero, suc, ◌<◌, Bool, true, false, not, ◌&&◌, ◌||◌, List, [], ◌∷◌, ◌++◌, length, get_or, Option, Some, None, refl, sym, ap, ◌∙◌, arith}
use mathlib.Core.Bool.{false≢true}
use Rattle.std.specs.List.{list_all}
use Rattle.std.specs.List.Sorted.{IsStrictlyIncreasing}
use Rattle.std.proofs.lemmas.Bool.{or_parts}
use Rattle.text_words.specs.Members.{has}
use Rattle.doc_nodes.specs.Rounds.{is_known, is_next, round, after_rounds}
use Rattle.doc_nodes.specs.Looks.{marked, met_by, aims_at, IsDue, AreMarks}
use Rattle.text_words.proofs.KnownMembers.{has_both}
use Rattle.doc_nodes.proofs.KnownSteps.{met_is_known}
use Rattle.doc_nodes.proofs.KnownRising.{exactly}
use Rattle.doc_nodes.proofs.KnownFiltered.{has_filter, has_filter_within}

all_from : {X : Type 0} (f : X → Bool) (xs : List X) (d : X) → ((q : ℕ) → q < length xs → f (get_or xs q d) ≡ true) → list_all f xs ≡ true
all_from f [] d each = refl
all_from f (x ∷ xs) d each =
    let first : f x ≡ true = each 0 (omega arith) in
    rw first (all_from f xs d (λ q lt. each (suc q) (omega arith)))

all_at : {X : Type 0} (f : X → Bool) (xs : List X) (d : X) → list_all f xs ≡ true → (q : ℕ) → q < length xs → f (get_or xs q d) ≡ true
all_at f [] d all q lt = absurd (omega arith)
all_at f (x ∷ xs) d all zero lt = go (f x) all
  where
    go : (b : Bool) → (b && list_all f xs) ≡ true → b ≡ true
    go true h = refl
    go false h = h
all_at f (x ∷ xs) d all (suc q) lt = all_at f xs d (go (f x) all) q (omega arith)
  where
    go : (b : Bool) → (b && list_all f xs) ≡ true → list_all f xs ≡ true
    go true h = h
    go false h = absurd (false≢true h)

one_fails : {X : Type 0} (f : X → Bool) (xs : List X) (d : X) → list_all f xs ≡ false → (q : ℕ) × (q < length xs) × (f (get_or xs q d) ≡ false)
one_fails f [] d all = absurd (false≢true (sym all))
one_fails f (x ∷ xs) d all = go (f x) refl all (one_fails f xs d)
  where
    go : (b : Bool) → f x ≡ b → (b && list_all f xs) ≡ false → (list_all f xs ≡ false → (q : ℕ) × (q < length xs) × (f (get_or xs q d) ≡ false))
        → (q : ℕ) × (q < length (x ∷ xs)) × (f (get_or (x ∷ xs) q d) ≡ false)
    go true e h rest = let r = rest h in (suc r.0, omega (arith, r.1), r.2)
    go false e h rest = (0, omega arith, e)

module _ (rows : List (List (Option ℕ))) (marks : List Bool) (ordered : List ℕ) (are : AreMarks marks ordered) where
  due_is_next : (p : ℕ) → IsDue rows marks p → is_next rows ordered p ≡ true
  due_is_next p due =
      let fresh : has ordered p ≡ false = sym (are p) ∙ due.unordered in
      let all = all_from (is_known ordered) (aims_at rows p) None (λ q lt. sym (met_is_known marks ordered are _) ∙ due.met q lt) in
      rw (fresh, all)

  next_is_due : (p : ℕ) → p < length rows → is_next rows ordered p ≡ true → IsDue rows marks p
  next_is_due p lt next = go (has ordered p) refl next
    where
      go : (b : Bool) → has ordered p ≡ b → (not b && list_all (is_known ordered) (aims_at rows p)) ≡ true → IsDue rows marks p
      go true e h = absurd (false≢true h)
      go false e h = record {
        in_range = lt;
        unordered = are p ∙ e;
        met = λ q l. met_is_known marks ordered are _ ∙ all_at (is_known ordered) (aims_at rows p) None h q l;
      }

  -- a rising list of just the places that are due is the next round
  pub round_is : (xs : List ℕ) → IsStrictlyIncreasing xs → ((p : ℕ) → has xs p ≡ true → IsDue rows marks p) → ((p : ℕ) → IsDue rows marks p → has xs p ≡ true) → xs ≡ round rows ordered
  round_is xs rises sound complete = exactly (is_next rows ordered) (length rows) xs rises
      (λ y h. let due = sound y h in (due.in_range, due_is_next y due))
      (λ y lt next. complete y (next_is_due y lt next))

-- the places of a round are in range
pub round_within : (rows : List (List (Option ℕ))) (ordered : List ℕ) (p : ℕ) → has (round rows ordered) p ≡ true → p < length rows
round_within rows ordered p h = omega (arith, has_filter_within (is_next rows ordered) (length rows) 0 p h)

-- what is due after a round imports a node of that round
pub due_imports : (rows : List (List (Option ℕ))) (marks : List Bool) (ordered last : List ℕ)
    → AreMarks marks (ordered ++ last) → last ≡ round rows ordered → (i : ℕ) → IsDue rows marks i
    → (q : ℕ) × (p : ℕ) × (q < length (aims_at rows i)) × (get_or (aims_at rows i) q None ≡ Some p) × (has last p ≡ true)
due_imports rows marks ordered last are is i due = go (list_all (is_known ordered) (aims_at rows i)) refl
  where
    fresh : (has ordered i || has last i) ≡ false
    fresh = sym (has_both ordered last i) ∙ sym (are i) ∙ due.unordered

    late : (a b : Bool) → (a || b) ≡ true → a ≡ false → b ≡ true
    late true b h e = absurd (false≢true (sym e))
    late false b h e = h

    by : (aim : Option ℕ) → met_by marks aim ≡ true → is_known ordered aim ≡ false → (p : ℕ) × (aim ≡ Some p) × (has last p ≡ true)
    by None met unknown = absurd (false≢true met)
    by (Some p) met unknown = (p, refl, late (has ordered p) (has last p) (sym (has_both ordered last p) ∙ sym (are p) ∙ met) unknown)

    go : (b : Bool) → list_all (is_known ordered) (aims_at rows i) ≡ b
        → (q : ℕ) × (p : ℕ) × (q < length (aims_at rows i)) × (get_or (aims_at rows i) q None ≡ Some p) × (has last p ≡ true)
    go true e =
        let unordered : has ordered i ≡ false = (or_parts (has ordered i) (has last i) fresh).0 in
        let next : is_next rows ordered i ≡ true = rw (unordered, e) in
        let placed = has_filter (is_next rows ordered) (length rows) 0 i (omega arith) (omega (arith, due.in_range)) next in
        absurd (false≢true (sym (or_parts (has ordered i) (has last i) fresh).1 ∙ ap (λ xs. has xs i) is ∙ placed))
    go false e =
        let f = one_fails (is_known ordered) (aims_at rows i) None e in
        let a = by (get_or (aims_at rows i) f.0 None) (due.met f.0 f.1) f.2 in
        (f.0, a.0, f.1, a.1, a.2)

-- one round more
pub after_step : (rows : List (List (Option ℕ))) (m k : ℕ) (ordered last : List ℕ) → m ≡ suc k → last ≡ round rows ordered
    → after_rounds rows k (ordered ++ last) ≡ after_rounds rows m ordered
after_step rows m k ordered last e is = rw (e, is)

-- the places of the last round are marked too
pub marks_more : (marks new : List Bool) (ordered last : List ℕ) → AreMarks marks ordered
    → ((p : ℕ) → marked new p ≡ (marked marks p || has last p)) → AreMarks new (ordered ++ last)
marks_more marks new ordered last are more p = more p ∙ ap (λ b. b || has last p) (are p) ∙ sym (has_both ordered last p)
