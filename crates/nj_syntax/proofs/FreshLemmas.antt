-- No printed name hides what a part of the formula shows, so that each name is read as what it was printed for.
use Rattle.std.proofs.Common.{◌≡◌, ◌≤◌, ◌<◌, ◌+◌, ◌-◌, ℕ, suc, Bool, false, ◌&&◌, nat_le, List, [], ◌∷◌, length, cond, bytes_eq, Option, Some, None, option_map, refl, ap, sym, subst, ◌∙◌, arith, ⊎_elim, add-one, le-leb}
use Rattle.std.proofs.lemmas.Bool.{both_ways, or_parts, and_cases, cases_eq}
use Rattle.std.proofs.lemmas.Slice.Eq.{bytes_eq-Decides}
use Rattle.text_words.proofs.KnownLists.{unlike_turned}
use Rattle.nj_formula.specs.Statement.{Statement}
use Rattle.nj_syntax.specs.declared.operator.Operator.{Operator}
use Rattle.nj_syntax.specs.declared.operator.Quantifier.{Quantifier}
use Rattle.nj_syntax.specs.Terms.{binder_place}
use Rattle.nj_syntax.specs.ArgumentText.{name_at}
use Rattle.nj_syntax.specs.Primed.{is_shown}
use Rattle.nj_syntax.proofs.FormLemmas.{join, bind, is_shown-join, is_shown-bind}

-- what may show a name, under the names outside of it and so many quantifiers more
abbrev pub Shown : Type 0
Shown = List ℕ → List (List ℕ) → ℕ → Bool

-- each of the names is shown by nothing under the names outside of it
abbrev pub FreshBy : Shown → List (List ℕ) → ℕ → Type 0
FreshBy shown [] e = Unit {0}
FreshBy shown (y ∷ outer) e = (shown y outer (e + 1) ≡ false) × FreshBy shown outer (e + 1)

pub weakened : (s t : Shown) → ((y : List ℕ) (outer : List (List ℕ)) (d : ℕ) → s y outer d ≡ false → t y outer d ≡ false)
    → (names : List (List ℕ)) (e : ℕ) → FreshBy s names e → FreshBy t names e
weakened s t less [] e fresh = tt
weakened s t less (y ∷ outer) e fresh = (less y outer (e + 1) fresh.0, weakened s t less outer (e + 1) fresh.1)

abbrev pub shown_by : Statement → Shown
shown_by s y outer d = is_shown y outer d s

abbrev pub Fresh : List (List ℕ) → Statement → Type 0
Fresh names s = FreshBy (shown_by s) names 0

pub fresh_left : (op : Operator) (names : List (List ℕ)) (s t : Statement) → Fresh names (join op s t) → Fresh names s
fresh_left op names s t =
    weakened (shown_by (join op s t)) (shown_by s) (λ y outer d e. (or_parts (is_shown y outer d s) (is_shown y outer d t) (sym (is_shown-join op y outer d s t) ∙ e)).0) names 0

pub fresh_right : (op : Operator) (names : List (List ℕ)) (s t : Statement) → Fresh names (join op s t) → Fresh names t
fresh_right op names s t =
    weakened (shown_by (join op s t)) (shown_by t) (λ y outer d e. (or_parts (is_shown y outer d s) (is_shown y outer d t) (sym (is_shown-join op y outer d s t) ∙ e)).1) names 0

deeper : (q : Quantifier) (s : Statement) (names : List (List ℕ)) (e : ℕ) → FreshBy (shown_by (bind q s)) names e → FreshBy (shown_by s) names (e + 1)
deeper q s [] e fresh = tt
deeper q s (y ∷ outer) e fresh = (sym (is_shown-bind q y outer (e + 1) s) ∙ fresh.0, deeper q s outer (e + 1) fresh.1)

pub fresh_body : (q : Quantifier) (names : List (List ℕ)) (y : List ℕ) (s : Statement) → Fresh names (bind q s) → is_shown y names 1 s ≡ false → Fresh (y ∷ names) s
fresh_body q names y s fresh free = (free, deeper q s names 0 fresh)

-- of a name that is not the first one
place_of-other : (y x : List ℕ) (names : List (List ℕ)) (place : Option ℕ) → bytes_eq x y ≡ false
    → binder_place names x ≡ place
    → binder_place (y ∷ names) x ≡ option_map (λ n. n + 1) place
place_of-other y x names place ne is =
    ap (λ b. cond b (Some 0) (option_map (λ n. n + 1) (binder_place names x))) (unlike_turned x y ne) ∙ ap (option_map (λ n. n + 1)) is

pub place_of-free : (x : List ℕ) (names : List (List ℕ)) (e : ℕ) → FreshBy (λ y outer d. bytes_eq x y) names e → binder_place names x ≡ None
place_of-free x [] e fresh = refl
place_of-free x (y ∷ outer) e fresh = place_of-other y x outer None fresh.0 (place_of-free x outer (e + 1) fresh.1)

abbrev pub shown_place : ℕ → Shown
shown_place j y outer d = nat_le d j && bytes_eq (name_at outer (j - d)) y

place_of-first : (y : List ℕ) (names : List (List ℕ)) → binder_place (y ∷ names) y ≡ Some 0
place_of-first y names = ap (λ b. cond b (Some 0) (option_map (λ n. n + 1) (binder_place names y))) ((bytes_eq-Decides y y).1 refl)

later_place : (j : ℕ) (y : List ℕ) (outer : List (List ℕ)) (e : ℕ) → shown_place j y outer (e + 1) ≡ false → e + 1 ≤ j
    → binder_place outer (name_at outer (j - (e + 1))) ≡ Some (j - (e + 1)) → binder_place (y ∷ outer) (name_at (y ∷ outer) (j - e)) ≡ Some (j - e)
later_place j y outer e fresh above is =
    let k : ℕ = j - (e + 1) in
    let next : j - e ≡ suc k = omega arith in
    let ne : bytes_eq (name_at outer k) y ≡ false =
    ⊎_elim (λ low. absurd (both_ways (nat_le (e + 1) j) low (le-leb (e + 1) j above))) (λ ne. ne)
    (and_cases (nat_le (e + 1) j) (bytes_eq (name_at outer (j - (e + 1))) y) fresh) in
    subst (λ n. binder_place (y ∷ outer) (name_at (y ∷ outer) n) ≡ Some n) (sym next)
    (place_of-other y (name_at outer k) outer (Some k) ne is ∙ ap Some (add-one k))

this_place : (j : ℕ) (y : List ℕ) (outer : List (List ℕ)) (e : ℕ) → j ≡ e → binder_place (y ∷ outer) (name_at (y ∷ outer) (j - e)) ≡ Some (j - e)
this_place j y outer e is =
    let none : j - e ≡ 0 = omega arith in
    subst (λ n. binder_place (y ∷ outer) (name_at (y ∷ outer) n) ≡ Some n) (sym none)
    (place_of-first y outer)

pub place_of-bound : (j : ℕ) (names : List (List ℕ)) (e : ℕ) → FreshBy (shown_place j) names e → e ≤ j → j < e + length names
    → binder_place names (name_at names (j - e)) ≡ Some (j - e)
place_of-bound j [] e fresh above below = absurd (omega arith)
place_of-bound j (y ∷ outer) e fresh above below =
    ⊎_elim (λ is. this_place j y outer e is)
    (λ other. later_place j y outer e fresh.0 (omega arith) (place_of-bound j outer (e + 1) fresh.1 (omega arith) (omega arith)))
    (cases_eq j e)
