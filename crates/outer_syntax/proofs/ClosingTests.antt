-- The tests of comments, strings and cartouches say yes of these alone.
use Rattle.std.proofs.Common.{◌≡◌, ℕ, zero, suc, ◌-◌, ◌≤◌, ◌||◌, true, false, List, [], ◌∷◌, ◌++◌, length, take, drop, sym, refl, ap, ◌∙◌, subst, ⊎_elim, arith, length-drop}
use Rattle.std.proofs.lemmas.Bool.{both_ways, and_parts, or_cases}
use Rattle.std.proofs.lemmas.List.{take_all, take-append-drop}
use Rattle.outer_syntax.specs.Brackets.{opening, begins, piece, after, ClosesText, IsEnclosed, closes, is_enclosed, is_opened}
use Rattle.outer_syntax.specs.Forms.{IsOpened}
use Rattle.outer_syntax.specs.declared.bracket.Bracket.{Bracket}
use Rattle.outer_syntax.specs.declared.bracket.Bracket.TheVariants.{Comment, String, Cartouche}
use Rattle.outer_syntax.proofs.BracketLemmas.{up, down, piece-some}
use Rattle.outer_syntax.proofs.ClosingLemmas.{equal-front}
use Rattle.outer_syntax.proofs.LeftLemmas.{closes-nothing}

-- the rest after the first piece of a text
module _ (b : Bracket) (c : ℕ) (s : List ℕ) where
  size : ℕ
  size = (piece b (c ∷ s)).1

  size-is : suc ((piece b (c ∷ s)).1 - 1) ≡ (piece b (c ∷ s)).1
  size-is = omega (arith, piece-some b (c ∷ s))

  rest-is : drop (piece b (c ∷ s)).1 (c ∷ s) ≡ drop ((piece b (c ∷ s)).1 - 1) s
  rest-is = ap (λ n. drop n (c ∷ s)) (sym size-is)

  rest-all : take (suc (length s) - (piece b (c ∷ s)).1) (drop (piece b (c ∷ s)).1 (c ∷ s)) ≡ drop ((piece b (c ∷ s)).1 - 1) s
  rest-all = take_all _ (drop (piece b (c ∷ s)).1 (c ∷ s)) (omega (arith, length-drop (piece b (c ∷ s)).1 (c ∷ s))) ∙ rest-is

  whole : take (suc (length s)) (c ∷ s) ≡ c ∷ s
  whole = take_all (suc (length s)) (c ∷ s) (omega arith)

pub closes-tested : (b : Bracket) (depth k : ℕ) (s : List ℕ) → closes b depth k s ≡ true → (k ≤ length s) × ClosesText b depth (drop k s)
closes-tested b depth (suc k) [] e = absurd (both_ways false refl e)
closes-tested b depth (suc k) (c ∷ s) e = let more = closes-tested b depth k s e in (omega (arith, more.0), more.1)
closes-tested b zero zero [] e = (omega arith, ([], refl, record { all = refl; last = λ k below. absurd (omega arith) }))
closes-tested b zero zero (c ∷ s) e = absurd (both_ways false refl e)
closes-tested b (suc d) zero [] e = absurd (both_ways false refl e)
closes-tested b (suc d) zero (c ∷ s) e =
    let to : ℕ = after (piece b (c ∷ s)).0 (suc d) in
    let more = closes-tested b to ((piece b (c ∷ s)).1 - 1) s e in
    let fits : (piece b (c ∷ s)).1 ≤ suc (length s) = omega (arith, more.0, size-is b c s) in
    (omega arith, subst (ClosesText b (suc d)) (whole b c s) (up b (suc d) (c ∷ s) (suc (length s)) (omega arith) (omega arith) fits (subst (ClosesText b to) (sym (rest-all b c s)) more.1)))

nothing-closes : (b : Bracket) (d : ℕ) → ClosesText b (suc d) [] → ⊥
nothing-closes b d ([], reads, c) = omega (arith, c.all)
nothing-closes b d (m ∷ ms, reads, c) = omega (arith, reads.0)

pub tested-closes : (b : Bracket) (depth k : ℕ) (s : List ℕ) → k ≤ length s → ClosesText b depth (drop k s) → closes b depth k s ≡ true
tested-closes b depth (suc k) [] within is = absurd (omega arith)
tested-closes b depth (suc k) (c ∷ s) within is = tested-closes b depth k s (omega arith) is
tested-closes b zero zero [] within is = refl
tested-closes b zero zero (c ∷ s) within is = let none : c ∷ s ≡ [] = closes-nothing b (c ∷ s) is in absurd (cc (none))
tested-closes b (suc d) zero [] within is = absurd (nothing-closes b d is)
tested-closes b (suc d) zero (c ∷ s) within is =
    let to : ℕ = after (piece b (c ∷ s)).0 (suc d) in
    let more = down b (suc d) (c ∷ s) (suc (length s)) (omega arith) (omega arith) (subst (ClosesText b (suc d)) (sym (whole b c s)) is) in
    tested-closes b to ((piece b (c ∷ s)).1 - 1) s (omega (arith, more.0, size-is b c s)) (subst (ClosesText b to) (rest-all b c s) more.1)

pub enclosed-tested : (b : Bracket) (s : List ℕ) → is_enclosed b s ≡ true → IsEnclosed b s
enclosed-tested b s e =
    let n : ℕ = length (opening b) in
    let parts = and_parts (begins (opening b) s) (closes b 1 0 (drop n s)) e in
    (drop n s, sym (take-append-drop n s) ∙ ap (λ f. f ++ drop n s) (equal-front (opening b) s parts.0), (closes-tested b 1 0 (drop n s) parts.1).1)

pub tested-enclosed : (b : Bracket) (s : List ℕ) → IsEnclosed b s → is_enclosed b s ≡ true
tested-enclosed Comment s (inside, e, is) = subst (λ x. is_enclosed Comment x ≡ true) (sym e) (tested-closes Comment 1 0 inside (omega arith) is)
tested-enclosed String s (inside, e, is) = subst (λ x. is_enclosed String x ≡ true) (sym e) (tested-closes String 1 0 inside (omega arith) is)
tested-enclosed Cartouche s (inside, e, is) = subst (λ x. is_enclosed Cartouche x ≡ true) (sym e) (tested-closes Cartouche 1 0 inside (omega arith) is)

opens-so : (b : Bracket) (s : List ℕ) → begins (opening b) s ≡ true → IsOpened s
opens-so b s e = (b, drop (length (opening b)) s, sym (take-append-drop (length (opening b)) s) ∙ ap (λ f. f ++ drop (length (opening b)) s) (equal-front (opening b) s e))

pub opened-tested : (s : List ℕ) → is_opened s ≡ true → IsOpened s
opened-tested s e =
    ⊎_elim (opens-so Comment s)
    (λ (more : (begins (opening String) s || begins (opening Cartouche) s) ≡ true). ⊎_elim (opens-so String s) (opens-so Cartouche s) (or_cases (begins (opening String) s) (begins (opening Cartouche) s) more))
    (or_cases (begins (opening Comment) s) (begins (opening String) s || begins (opening Cartouche) s) e)

pub tested-opened : (s : List ℕ) → IsOpened s → is_opened s ≡ true
tested-opened s (Comment, inside, e) = subst (λ x. is_opened x ≡ true) (sym e) refl
tested-opened s (String, inside, e) = subst (λ x. is_opened x ≡ true) (sym e) refl
tested-opened s (Cartouche, inside, e) = subst (λ x. is_opened x ≡ true) (sym e) refl
