-- How many symbols end at a place or before it.
use Rattle.std.proofs.Common.{◌≡◌, ◌⊎◌, inl, inr, ℕ, ◌+◌, ◌<◌, ◌≤◌, cond, List, [], ◌∷◌, length, min, refl, sym, ap, ◌∙◌, subst, ⊎_elim, arith}
use Rattle.std.specs.Prelude.{count_by, nat_le}
use Rattle.std.proofs.lemmas.Bool.{cases_lt, cond-true, cond-false, le-leb, lt-leb}
use Rattle.std.proofs.lemmas.List.Sums.{sum_by-cons}
use Rattle.outer_syntax.specs.Symbols.{IsSymbolAt, AreSymbols, AreSymbolsBetween, symbols_of}
use Rattle.outer_syntax.proofs.KnownStops.{same-stop}
use Rattle.symbol_markup.specs.Places.{IsSymbolPlace, symbol_place}

abbrev pub ended : ℕ → List (ℕ × ℕ) → ℕ
ended place ss = count_by (λ s. nat_le s.1 place) ss

ended-cons : (place : ℕ) (s : ℕ × ℕ) (ss : List (ℕ × ℕ)) → ended place (s ∷ ss) ≡ cond (nat_le s.1 place) 1 0 + ended place ss
ended-cons place s ss = sum_by-cons (λ t. cond (nat_le t.1 place) 1 0) s ss

ended-one : (place : ℕ) (s : ℕ × ℕ) (ss : List (ℕ × ℕ)) → s.1 ≤ place → ended place (s ∷ ss) ≡ 1 + ended place ss
ended-one place s ss upto =
    omega (arith, ended-cons place s ss, cond-true {A = ℕ} (nat_le s.1 place) 1 0 (le-leb s.1 place upto))

ended-none : (place : ℕ) (s : ℕ × ℕ) (ss : List (ℕ × ℕ)) → place < s.1 → ended place (s ∷ ss) ≡ ended place ss
ended-none place s ss above =
    omega (arith, ended-cons place s ss, cond-false {A = ℕ} (nat_le s.1 place) 1 0 (lt-leb s.1 place above))

-- each symbol has a scalar at least
pub count-within : (text : List ℕ) (from to : ℕ) (ss : List (ℕ × ℕ)) → AreSymbolsBetween text from to ss → from + length ss ≤ to
count-within text from to [] is = omega arith
count-within text from to (s ∷ ss) is = omega (arith, is.1.0, count-within text s.1 to ss is.2)

none-ended : (text : List ℕ) (from to place : ℕ) (ss : List (ℕ × ℕ)) → AreSymbolsBetween text from to ss → place ≤ from → ended place ss ≡ 0
none-ended text from to place [] is upto = refl
none-ended text from to place (s ∷ ss) is upto =
    omega (arith, ended-none place s ss (omega (arith, is.1.0)), none-ended text s.1 to place ss is.2 (omega (arith, is.1.0)))

pub all-ended : (text : List ℕ) (from to place : ℕ) (ss : List (ℕ × ℕ)) → AreSymbolsBetween text from to ss → to ≤ place → ended place ss ≡ length ss
all-ended text from to place [] is past = refl
all-ended text from to place (s ∷ ss) is past =
    omega (arith, ended-one place s ss (omega (arith, count-within text s.1 to ss is.2)), all-ended text s.1 to place ss is.2 past)

-- those before the symbol that begins at the place or has it inside
pub counted : (text : List ℕ) (from to start place : ℕ) (before ss : List (ℕ × ℕ)) → AreSymbolsBetween text from start before → AreSymbolsBetween text from to ss → start ≤ to → start ≤ place → ((stop : ℕ) → IsSymbolAt text start stop → place < stop) → ended place ss ≡ length before
counted text from to start place [] [] one is within upto next = refl
counted text from to start place [] (s ∷ ss) one is within upto next =
    let past : place < s.1 = next s.1 (subst (λ p. IsSymbolAt text p s.1) one is.1) in
    omega (arith, ended-none place s ss past, none-ended text s.1 to place ss is.2 (omega arith))
counted text from to start place (b ∷ bs) [] one is within upto next =
    absurd (omega (arith, is, one.1.0, count-within text b.1 start bs one.2))
counted text from to start place (b ∷ bs) (s ∷ ss) one is within upto next =
    let same : b.1 ≡ s.1 = same-stop text from b.1 s.1 one.1 is.1 in
    let more = counted text s.1 to start place bs ss (subst (λ p. AreSymbolsBetween text p start bs) same one.2) is.2 within upto next in
    omega (arith, more, ended-one place s ss (omega (arith, same, count-within text b.1 start bs one.2)))

pub ended-rises : (place later : ℕ) (ss : List (ℕ × ℕ)) → place ≤ later → ended place ss ≤ ended later ss
ended-rises place later [] upto = omega arith
ended-rises place later (s ∷ ss) upto =
    let more = ended-rises place later ss upto in
    ⊎_elim (λ (above : place < s.1). omega (arith, more, ended-none place s ss above, ended-cons later s ss))
    (λ (within : s.1 ≤ place). omega (arith, more, ended-one place s ss within, ended-one later s ss (omega arith)))
    (cases_lt place s.1)

pub ended-within : (place : ℕ) (ss : List (ℕ × ℕ)) → ended place ss ≤ length ss
ended-within place [] = omega arith
ended-within place (s ∷ ss) =
    let more = ended-within place ss in
    ⊎_elim (λ (above : place < s.1). omega (arith, more, ended-none place s ss above))
    (λ (within : s.1 ≤ place). omega (arith, more, ended-one place s ss within))
    (cases_lt place s.1)

-- a place is between two symbols or inside of one
abbrev Stands : List ℕ → ℕ → ℕ → List (ℕ × ℕ) → Type 0
Stands text from place before = AreSymbolsBetween text from place before
    ⊎ ((start : ℕ) × (stop : ℕ) × AreSymbolsBetween text from start before × IsSymbolAt text start stop × (start < place) × (place < stop))

one-more : (text : List ℕ) (from place : ℕ) (s : ℕ × ℕ) (before : List (ℕ × ℕ)) → s.0 ≡ from → IsSymbolAt text from s.1 → Stands text s.1 place before → Stands text from place (s ∷ before)
one-more text from place s before starts at (inl between) = inl (starts, at, between)
one-more text from place s before starts at (inr (start, stop, between, is, after, inside)) =
    inr (start, stop, (starts, at, between), is, after, inside)

stands : (text : List ℕ) (from to place : ℕ) (ss : List (ℕ × ℕ)) → AreSymbolsBetween text from to ss → from ≤ place → place ≤ to → (before : List (ℕ × ℕ)) × Stands text from place before
stands text from to place [] is upto within = ([], inl (omega arith))
stands text from to place (s ∷ ss) is upto within =
    ⊎_elim (λ (inside : place < s.1). ⊎_elim (λ (after : from < place). ([], inr (from, s.1, refl, is.1, after, inside))) (λ (at : place ≤ from). ([], inl (omega arith))) (cases_lt from place))
    (λ (past : s.1 ≤ place). let more = stands text s.1 to place ss is.2 past within in (s ∷ more.0, one-more text from place s more.0 is.0 is.1 more.1))
    (cases_lt place s.1)

pub place-is : (text : List ℕ) (place number : ℕ) → AreSymbols text (symbols_of text) → place ≤ length text → IsSymbolPlace text place number → number ≡ symbol_place text place
place-is text place number are within (n, inl (before, between, count), is) =
    let known = counted text 0 (length text) place place before (symbols_of text) between are within (omega arith) (λ stop at. at.0) in
    omega (arith, known, count, is)
place-is text place number are within (n, inr (start, stop, (before, between, count), at, after, inside), is) =
    let known = counted text 0 (length text) start place before (symbols_of text) between are (omega arith) (omega arith) (λ other is_at. omega (arith, inside, same-stop text start stop other at is_at)) in
    omega (arith, known, count, is)

placed : (text : List ℕ) (place : ℕ) (before : List (ℕ × ℕ)) → Stands text 0 place before → IsSymbolPlace text place (length before + 1)
placed text place before (inl between) = (length before, inl (before, between, refl), refl)
placed text place before (inr (start, stop, between, is, after, inside)) =
    (length before, inr (start, stop, (before, between, refl), is, after, inside), refl)

pub is-place : (text : List ℕ) (place : ℕ) → AreSymbols text (symbols_of text) → place ≤ length text → IsSymbolPlace text place (symbol_place text place)
is-place text place are within =
    let found = stands text 0 (length text) place (symbols_of text) are (omega arith) within in
    let is = placed text place found.0 found.1 in
    subst (IsSymbolPlace text place) (place-is text place _ are within is) is

-- behind the end as at the end
pub capped : (text : List ℕ) (place : ℕ) → ((p : ℕ) → length text ≤ p → symbol_place text p ≡ symbol_place text (length text)) → symbol_place text (min place (length text)) ≡ symbol_place text place
capped text place behind =
    ⊎_elim (λ (within : place < length text). let same : min place (length text) ≡ place = omega arith in ap (symbol_place text) same)
    (λ (past : length text ≤ place). let same : min place (length text) ≡ length text = omega arith in ap (symbol_place text) same ∙ sym (behind place past))
    (cases_lt place (length text))
