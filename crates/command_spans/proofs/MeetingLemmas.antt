-- A boundary of the edited text is a meeting just where the first old token that isn't passed tells so.
use Rattle.std.proofs.Common.{◌≡◌, ℕ, zero, suc, ◌<◌, ◌≤◌, ◌==◌, ◌||◌, ◌&&◌, Bool, true, false, nat_eq, List, [], ◌∷◌, length, sym, refl, ap, ◌∙◌, ⊎_elim, arith}
use Rattle.std.specs.Prelude.{nat_le}
use Rattle.std.specs.List.{list_any}
use Rattle.std.proofs.lemmas.Bool.{both_ways, cases_lt, and_parts, or_left, or_right, eqb-true, eq-eqb, le-leb, leb-true}
use Rattle.outer_syntax.specs.declared.token.Token.{Token}
use Rattle.command_spans.specs.CutTexts.{Rising, boundaries, boundary_at}
use Rattle.command_spans.specs.Reparsing.{moved, is_meeting}
use Rattle.command_spans.specs.Keeping.{ArePassed}
use Rattle.command_spans.proofs.PlaceLemmas.{first-boundary}
use Rattle.command_spans.proofs.ReadOn.{boundary-end}

-- a boundary that passes a test is among the boundaries
any-at : (test : ℕ → Bool) (len : ℕ) (ts : List Token) (n : ℕ) → n ≤ length ts → test (boundary_at len ts n) ≡ true → list_any test (boundaries len ts) ≡ true
any-at test len [] n within passes = or_left (test len) false passes
any-at test len (t ∷ ts) zero within passes = or_left (test t.range.start) _ passes
any-at test len (t ∷ ts) (suc n) within passes = or_right (test t.range.start) _ (any-at test len ts n (omega arith) passes)

module _ (test : ℕ → Bool) (place : ℕ) (only : (o : ℕ) → test o ≡ true → o ≡ place) where
  fails : (o : ℕ) → (o ≡ place → ⊥) → test o ≡ false
  fails o apart = go (test o) refl where
    go : (b : Bool) → test o ≡ b → b ≡ false
    go true passes = absurd (apart (only o passes))
    go false e = refl

  -- between two boundaries there is none
  any-none : (from len : ℕ) (ts : List Token) (n : ℕ) → Rising from len ts → ArePassed place ts n → place < boundary_at len ts n → list_any test (boundaries len ts) ≡ false
  any-none from len [] n is passed below = λ i. fails len (λ e. omega (arith, e, below)) i || false
  any-none from len (t ∷ ts) zero (starts, some, rest) passed below =
      let head : test t.range.start ≡ false = fails t.range.start (λ e. omega (arith, e, below)) in
      let tail : list_any test (boundaries len ts) ≡ false = any-none t.range.stop len ts 0 rest (omega arith, λ k d low lt. absurd (omega arith)) (omega (arith, below, some, first-boundary t.range.stop len ts rest)) in
      λ i. head i || tail i
  any-none from len (t ∷ ts) (suc n) (starts, some, rest) passed below =
      let head : test t.range.start ≡ false = fails t.range.start (λ e. omega (arith, e, passed.1 0 t (omega arith) (omega arith))) in
      let tail : list_any test (boundaries len ts) ≡ false = any-none t.range.stop len ts n rest (omega (arith, passed.0), λ k d low lt. passed.1 (suc k) d (omega arith) (omega arith)) below in
      λ i. head i || tail i

-- the test of an old boundary that the edit moves to a place
abbrev pub is_moved_to : ℕ → ℕ → ℕ → ℕ → Bool
is_moved_to old_end new_end place o = nat_le old_end o && moved old_end new_end o == place

moved-back : (old_end new_end place : ℕ) → new_end ≤ place → is_moved_to old_end new_end place (moved new_end old_end place) ≡ true
moved-back old_end new_end place behind =
    let low : nat_le old_end (moved new_end old_end place) ≡ true = le-leb old_end (moved new_end old_end place) (omega arith) in
    let there : (moved old_end new_end (moved new_end old_end place) == place) ≡ true = eq-eqb (moved old_end new_end (moved new_end old_end place)) place (omega arith) in
    λ i. low i && there i

pub moved-only : (old_end new_end place : ℕ) → new_end ≤ place → (o : ℕ) → is_moved_to old_end new_end place o ≡ true → o ≡ moved new_end old_end place
moved-only old_end new_end place behind o passes =
    let parts = and_parts (nat_le old_end o) (moved old_end new_end o == place) passes in
    omega (arith, leb-true old_end o parts.0, eqb-true (moved old_end new_end o) place parts.1)

pub meeting-told : (old_end new_end place from len : ℕ) (ts : List Token) (n : ℕ) → new_end ≤ place → Rising from len ts → ArePassed (moved new_end old_end place) ts n → moved new_end old_end place ≤ boundary_at len ts n → nat_eq (boundary_at len ts n) (moved new_end old_end place) ≡ is_meeting old_end new_end (boundaries len ts) place
meeting-told old_end new_end place from len ts n behind is passed reached = go (nat_eq (boundary_at len ts n) (moved new_end old_end place)) refl where
  here : nat_le new_end place ≡ true
  here = le-leb new_end place behind

  go : (b : Bool) → nat_eq (boundary_at len ts n) (moved new_end old_end place) ≡ b → b ≡ is_meeting old_end new_end (boundaries len ts) place
  go true e =
      let same : boundary_at len ts n ≡ moved new_end old_end place = eqb-true (boundary_at len ts n) (moved new_end old_end place) e in
      let any = any-at (is_moved_to old_end new_end place) len ts n passed.0 (ap (is_moved_to old_end new_end place) same ∙ moved-back old_end new_end place behind) in
      sym (λ i. here i && any i)
  go false e =
      let below : moved new_end old_end place < boundary_at len ts n = ⊎_elim
      (λ (less : moved new_end old_end place < boundary_at len ts n). less)
      (λ (above : boundary_at len ts n ≤ moved new_end old_end place). absurd (both_ways (nat_eq (boundary_at len ts n) (moved new_end old_end place)) e (eq-eqb (boundary_at len ts n) (moved new_end old_end place) (omega (arith, above, reached)))))
      (cases_lt (moved new_end old_end place) (boundary_at len ts n)) in
      let none = any-none (is_moved_to old_end new_end place) (moved new_end old_end place) (moved-only old_end new_end place behind) from len ts n is passed below in
      sym (λ i. here i && none i)

-- where the edited text ends the texts meet
pub end-meets : (old_end new_end from old_len new_len : ℕ) (ts : List Token) → old_end ≤ old_len → new_end ≤ new_len → moved old_end new_end old_len ≡ new_len → is_meeting old_end new_end (boundaries old_len ts) new_len ≡ true
end-meets old_end new_end from old_len new_len ts within inside same =
    let here : nat_le new_end new_len ≡ true = le-leb new_end new_len inside in
    let low : nat_le old_end old_len ≡ true = le-leb old_end old_len within in
    let there : (moved old_end new_end old_len == new_len) ≡ true = eq-eqb (moved old_end new_end old_len) new_len same in
    let last : is_moved_to old_end new_end new_len old_len ≡ true = λ i. low i && there i in
    let any = any-at (is_moved_to old_end new_end new_len) old_len ts (length ts) (omega arith) (ap (is_moved_to old_end new_end new_len) (boundary-end old_len ts (length ts) (omega arith)) ∙ last) in
    λ i. here i && any i

-- a meeting is at or past the new end
pub meets-behind : (old_end new_end : ℕ) (olds : List ℕ) (place : ℕ) → is_meeting old_end new_end olds place ≡ true → new_end ≤ place
meets-behind old_end new_end olds place holds = leb-true new_end place (and_parts (nat_le new_end place) _ holds).0
