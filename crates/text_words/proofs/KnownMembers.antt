-- What is in a list of numbers: its first, what one of two lists has, and what passes a test.
use Rattle.std.proofs.Common.{◌≡◌, ℕ, ◌<◌, eqb, eq-eqb, Bool, true, false, ◌&&◌, ◌||◌, cond, List, [], ◌∷◌, ◌++◌, length, get_or, filter, refl, sym, ap, ◌∙◌, arith, ◌⊎◌, inl, inr, subst}
use mathlib.Core.Bool.{false≢true}
use Rattle.std.specs.List.{Contains, dedup, list_all, AllByRecursion}
use Rattle.std.specs.Prelude.{◌==◌}
use Rattle.std.specs.Cmp.Derive.{one_truth}
use Rattle.std.proofs.lemmas.Bool.{eqb-true, and_from, and_parts, or_left, or_right, or_cases, ne_eqb}
use Rattle.std.proofs.lemmas.Bool.Decides.{nat_tests}
use Rattle.std.proofs.lemmas.List.Folds.{list_any_at, list_any-append}
use Rattle.std.proofs.lemmas.List.Kept.{Contains-dedup_nat, Contains-from_dedup}
use Rattle.std.proofs.lemmas.Map.Views.{Contains-from_any}
use Rattle.std.proofs.Math.Bool.{and-false}
use Rattle.std.specs.List.Sorted.{IsPermutation}
use Rattle.std.proofs.lemmas.List.Sorted.{Contains-permutation, IsPermutation-sym}
use Rattle.text_words.specs.Members.{has}

pub has_at : (xs : List ℕ) (k d : ℕ) → k < length xs → has xs (get_or xs k d) ≡ true
has_at xs k d lt = list_any_at (λ q. eqb (get_or xs k d) q) xs k d lt (eq-eqb _ _ refl)

-- a list has its first
pub has_itself : (xs : List ℕ) (p : ℕ) → has (p ∷ xs) p ≡ true
has_itself xs p = ap (λ b. b || has xs p) (eq-eqb p p refl)

-- and what its rest has
pub has_tail : (x y : ℕ) (xs : List ℕ) → has xs y ≡ true → has (x ∷ xs) y ≡ true
has_tail x y xs h = or_right (eqb y x) (has xs y) h

-- two lists have what one of them has
pub has_both : (xs ys : List ℕ) (p : ℕ) → has (xs ++ ys) p ≡ (has xs p || has ys p)
has_both xs ys p = list_any-append (λ q. eqb p q) xs ys

pub has_left : (xs ys : List ℕ) (p : ℕ) → has xs p ≡ true → has (xs ++ ys) p ≡ true
has_left xs ys p h = has_both xs ys p ∙ or_left (has xs p) (has ys p) h

pub has_right : (xs ys : List ℕ) (p : ℕ) → has ys p ≡ true → has (xs ++ ys) p ≡ true
has_right xs ys p h = has_both xs ys p ∙ or_right (has xs p) (has ys p) h

pub has_middle : (f : List ℕ) (p : ℕ) (rest : List ℕ) → has (f ++ p ∷ rest) p ≡ true
has_middle f p rest = has_right f (p ∷ rest) p (has_itself rest p)

-- the test says yes of just what the list contains
pub has_contained : (xs : List ℕ) (p : ℕ) → has xs p ≡ true → Contains xs p
has_contained xs p h = Contains-from_any {eq = eqb} (λ x y e. eqb-true x y e) p xs h

pub contained_has : (xs : List ℕ) (p : ℕ) → Contains xs p → has xs p ≡ true
contained_has xs p c = list_any_at (λ q. eqb p q) xs c.0 p c.1 (eq-eqb _ _ (sym c.2))

pub has_dedup : (xs : List ℕ) (p : ℕ) → has (dedup eqb xs) p ≡ has xs p
has_dedup xs p = one_truth (has (dedup eqb xs) p) (has xs p)
    (λ h. contained_has _ p (Contains-from_dedup eqb xs p (has_contained _ p h)))
    (λ h. contained_has _ p (Contains-dedup_nat xs p (has_contained xs p h)))

-- a list is cut at a place that it has
pub cut_at : (xs : List ℕ) (p : ℕ) → has xs p ≡ true → (front : List ℕ) × (rest : List ℕ) × (xs ≡ front ++ p ∷ rest)
cut_at [] p h = absurd (false≢true h)
cut_at (x ∷ xs) p h = go (eqb p x) refl h (cut_at xs p)
  where
    go : (b : Bool) → eqb p x ≡ b → (b || has xs p) ≡ true → (has xs p ≡ true → (front : List ℕ) × (rest : List ℕ) × (xs ≡ front ++ p ∷ rest))
        → (front : List ℕ) × (rest : List ℕ) × (x ∷ xs ≡ front ++ p ∷ rest)
    go true e h later = let same : x ≡ p = grind (arith, nat_tests) in ([], xs, ap (λ y. y ∷ xs) same)
    go false e h later = let l = later h in (x ∷ l.0, l.1, ap (λ ys. x ∷ ys) l.2)

-- what passes a test is there and passes it
pub has_passing : (test : ℕ → Bool) (xs : List ℕ) (e : ℕ) → has (filter test xs) e ≡ (test e && has xs e)
has_passing test [] e = sym (and-false (test e))
has_passing test (x ∷ xs) e = go (test x) refl (e == x) refl (has_passing test xs e)
  where
    both : (a : Bool) → a ≡ true → true ≡ (a && true)
    both true is = refl
    both false is = absurd (cc)

    none : (a b c : Bool) → a ≡ false → c ≡ (a && b) → c ≡ (a && true)
    none false b c is so = so
    none true b c is so = absurd (cc)

    go : (a : Bool) → test x ≡ a → (b : Bool) → (e == x) ≡ b → has (filter test xs) e ≡ (test e && has xs e)
        → has (cond a (x ∷ filter test xs) (filter test xs)) e ≡ (test e && (b || has xs e))
    go true is true same rest = ap (λ b. b || has (filter test xs) e) same
        ∙ both (test e) (ap test (eqb-true e x same) ∙ is)
    go true is false same rest = ap (λ b. b || has (filter test xs) e) same ∙ rest
    go false is true same rest = none (test e) (has xs e) (has (filter test xs) e) (ap test (eqb-true e x same) ∙ is) rest
    go false is false same rest = rest

-- a test that what a list has passes, all of the list passes
pub all_passed : (test : ℕ → Bool) (xs : List ℕ) → ((e : ℕ) → has xs e ≡ true → test e ≡ true) → list_all test xs ≡ true
all_passed test [] all = refl
all_passed test (x ∷ xs) all = and_from (test x) (list_all test xs)
    (all x (has_itself xs x)) (all_passed test xs (λ e is. all e (has_tail x e xs is)))

-- and what all of a list passes, each that it has passes
pub has_passed : (test : ℕ → Bool) (xs : List ℕ) (e : ℕ) → list_all test xs ≡ true
    → has xs e ≡ true → test e ≡ true
has_passed test [] e all is = absurd (false≢true is)
has_passed test (x ∷ xs) e all is =
    let parts = and_parts (test x) (list_all test xs) all in
    go (or_cases (e == x) (has xs e) is) parts.0 (has_passed test xs e parts.1)
  where
    go : ((e == x) ≡ true) ⊎ (has xs e ≡ true) → test x ≡ true
        → (has xs e ≡ true → test e ≡ true) → test e ≡ true
    go (inl same) here later = ap test (eqb-true e x same) ∙ here
    go (inr there) here later = later there

-- numbers that were put in order, each once, are the same
pub same_numbers : (found ordered : List ℕ) → IsPermutation found ordered → (e : ℕ) → has (dedup eqb ordered) e ≡ has found e
same_numbers found ordered moved e = one_truth (has (dedup eqb ordered) e) (has found e)
    (λ is. contained_has found e (Contains-permutation ordered found e (IsPermutation-sym found ordered moved)
    (Contains-from_dedup eqb ordered e (has_contained (dedup eqb ordered) e is))))
    (λ is. contained_has (dedup eqb ordered) e (Contains-dedup_nat ordered e
    (Contains-permutation found ordered e moved (has_contained found e is))))

-- what holds of each number holds of one that the list has
pub each_has : (P : ℕ → Type 0) (xs : List ℕ) (e : ℕ) → AllByRecursion P xs → has xs e ≡ true → P e
each_has P [] e all is = absurd (cc)
each_has P (x ∷ xs) e all is = go (or_cases (e == x) (has xs e) is) (each_has P xs e all.1)
  where
    go : ((e == x) ≡ true) ⊎ (has xs e ≡ true) → (has xs e ≡ true → P e) → P e
    go (inl same) rest = subst P (sym (eqb-true e x same)) all.0
    go (inr there) rest = rest there

-- one that a list has differs from one that it hasn't
pub apart : (xs : List ℕ) (c d : ℕ) → has xs c ≡ false → has xs d ≡ true → (c == d) ≡ false
apart xs c d out is = ne_eqb c d (λ e. false≢true (sym out ∙ ap (λ x. has xs x) e ∙ is))

-- what a list has with one number behind it, and is not that one, it has
pub has_other : (front : List ℕ) (p q : ℕ) → (p == q) ≡ false → has (front ++ p ∷ []) q ≡ true → has front q ≡ true
has_other front p q other is = go (or_cases (has front q) (has (p ∷ []) q) (sym (has_both front (p ∷ []) q) ∙ is))
  where
    last : ((q == p) ≡ true) ⊎ (false ≡ true) → has front q ≡ true
    last (inl same) = absurd (false≢true (sym other ∙ eq-eqb p q (sym (eqb-true q p same))))
    last (inr bad) = absurd (false≢true bad)

    go : (has front q ≡ true) ⊎ (has (p ∷ []) q ≡ true) → has front q ≡ true
    go (inl there) = there
    go (inr here) = last (or_cases (q == p) false here)
