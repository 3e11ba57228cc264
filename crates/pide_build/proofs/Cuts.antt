-- How many of the nodes that are left are the next round.
use Rattle.std.proofs.Common.{◌≡◌, ℕ, zero, suc, ◌+◌, ◌<◌, ◌≤◌, Bool, true, false, ◌&&◌, List, [], ◌∷◌, ◌++◌, length, get_or, Option, Some, None, refl, sym, ap, ◌∙◌, ⊎_elim, length-append, arith}
use mathlib.Core.Bool.{false≢true}
use Rattle.std.specs.List.{list_all}
use Rattle.std.proofs.lemmas.Bool.{cases_lt}
use Rattle.text_words.specs.Members.{has}
use Rattle.doc_nodes.specs.Rounds.{is_known}
use Rattle.doc_nodes.specs.Looks.{met_by, AreMarks}
use Rattle.text_words.proofs.KnownMembers.{has_at}
use Rattle.doc_nodes.proofs.KnownSteps.{met_is_known}

-- so lists of marked imports are lists of ordered ones
pub all_met : (marks : List Bool) (ordered : List ℕ) → AreMarks marks ordered → (aims : List (Option ℕ))
    → list_all (met_by marks) aims ≡ list_all (is_known ordered) aims
all_met marks ordered are [] = refl
all_met marks ordered are (aim ∷ aims) =
    ap (λ b. b && list_all (met_by marks) aims) (met_is_known marks ordered are aim)
    ∙ ap (λ b. is_known ordered aim && b) (all_met marks ordered are aims)

before : (now later : List ℕ) (k d : ℕ) → k < length now → get_or (now ++ later) k d ≡ get_or now k d
before [] later k d lt = absurd (omega arith)
before (x ∷ now) later zero d lt = refl
before (x ∷ now) later (suc k) d lt = before now later k d (omega arith)

first_behind : (now later : List ℕ) (d : ℕ) → length now < length (now ++ later)
    → (rest : List ℕ) × (later ≡ get_or (now ++ later) (length now) d ∷ rest)
first_behind [] [] d some = absurd (omega arith)
first_behind [] (q ∷ later) d some = (later, refl)
first_behind (x ∷ now) later d some = first_behind now later d (omega arith)

-- where all of the first list pass and the first of the second doesn't, the passing ones are the first list
pub count_is : (test : ℕ → Bool) (now later : List ℕ) (count : ℕ) → 0 < length now
    → ((q : ℕ) → has now q ≡ true → test q ≡ true)
    → ((q : ℕ) (rest : List ℕ) → later ≡ q ∷ rest → test q ≡ false)
    → 0 < count → count ≤ length (now ++ later)
    → ((q : ℕ) → 0 < q → q < count → test (get_or (now ++ later) q 0) ≡ true)
    → (count < length (now ++ later) → test (get_or (now ++ later) count 0) ≡ false)
    → count ≡ length now
count_is test now later count some passes fails least most fit stop =
    ⊎_elim few (λ le. ⊎_elim many (λ ge. omega arith) (cases_lt (length now) count)) (cases_lt count (length now))
  where
    long : length (now ++ later) ≡ length now + length later
    long = length-append now later

    few : count < length now → count ≡ length now
    few lt =
        let inside : count < length (now ++ later) = let l = long in omega arith in
        let at : get_or (now ++ later) count 0 ≡ get_or now count 0 = before now later count 0 lt in
        absurd (false≢true (sym (stop inside) ∙ ap test at ∙ passes (get_or now count 0) (has_at now count 0 lt)))

    many : length now < count → count ≡ length now
    many lt =
        let behind = first_behind now later 0 (let l = long in omega arith) in
        absurd (false≢true (sym (fails (get_or (now ++ later) (length now) 0) behind.0 behind.1) ∙ fit (length now) some lt))
