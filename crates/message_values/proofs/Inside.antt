-- What stands in an element, and what behind it.
use Rattle.std.proofs.Common.{◌≡◌, ℕ, zero, suc, ◌+◌, ◌-◌, ◌<◌, List, [], ◌∷◌, ◌++◌, refl, sym, subst, ap, arith}
use Rattle.yxml.specs.Bodies.{ClosesOpen}
use Rattle.yxml.specs.Marks.{Mark, opening, closing, words, open_after}
use Rattle.message_values.specs.Inside.{inside, behind}

one_more : (d : ℕ) → d + 1 ≡ suc d
one_more d = omega arith

one_less : (d : ℕ) → suc d - 1 ≡ d
one_less d = omega arith

-- an element ends where its end tag stands
pub record Ends (d : ℕ) (ms : List Mark) : Type 0 where
  pub whole : inside (suc d) ms ≡ inside d ms ++ closing ∷ inside 0 (behind d ms)
  pub inner : open_after d (inside d ms) ≡ 0
  pub outer : open_after 0 (inside 0 (behind d ms)) ≡ 0

pub ends : (d : ℕ) (ms : List Mark) → open_after (suc d) (inside (suc d) ms) ≡ 0 → Ends d ms
ends d [] none = absurd (omega (arith, none))
ends d (opening name attributes ∷ ms) none =
    let deep : open_after (suc (suc d)) (inside (suc (suc d)) ms) ≡ 0 = subst (λ n. open_after n (inside (suc (suc d)) ms) ≡ 0) (one_more (suc d)) none in
    let e = ends (suc d) ms deep in
    record {
      whole = ap (λ xs. opening name attributes ∷ xs) e.whole;
      inner = subst (λ n. open_after n (inside (suc d) ms) ≡ 0) (sym (one_more d)) e.inner;
      outer = e.outer;
    }
ends zero (closing ∷ ms) none = record { whole = refl; inner = refl; outer = subst (λ n. open_after n (inside 0 ms) ≡ 0) (one_less 0) none }
ends (suc d) (closing ∷ ms) none =
    let less : open_after (suc d) (inside (suc d) ms) ≡ 0 = subst (λ n. open_after n (inside (suc d) ms) ≡ 0) (one_less (suc d)) none in
    let e = ends d ms less in
    record {
      whole = ap (λ xs. closing ∷ xs) e.whole;
      inner = subst (λ n. open_after n (inside d ms) ≡ 0) (sym (one_less d)) e.inner;
      outer = e.outer;
    }
ends d (words text ∷ ms) none =
    let e = ends d ms none in
    record { whole = ap (λ xs. words text ∷ xs) e.whole; inner = e.inner; outer = e.outer }

-- no end tag of the element itself stands in it
pub closes-inside : (d : ℕ) (ms : List Mark) → ClosesOpen d (inside d ms)
closes-inside d [] = tt
closes-inside d (opening name attributes ∷ ms) = subst (λ n. ClosesOpen n (inside (suc d) ms)) (sym (one_more d)) (closes-inside (suc d) ms)
closes-inside zero (closing ∷ ms) = tt
closes-inside (suc d) (closing ∷ ms) = (omega arith, subst (λ n. ClosesOpen n (inside d ms)) (sym (one_less d)) (closes-inside d ms))
closes-inside d (words text ∷ ms) = closes-inside d ms

-- marks that close nothing else stand inside as they are
pub all-inside : (d : ℕ) (ms : List Mark) → ClosesOpen d ms → inside d ms ≡ ms
all-inside d [] h = refl
all-inside d (opening name attributes ∷ ms) h =
    ap (λ xs. opening name attributes ∷ xs) (all-inside (suc d) ms (subst (λ n. ClosesOpen n ms) (one_more d) h))
all-inside zero (closing ∷ ms) h = absurd (let less : 0 < 0 = h.0 in omega (arith, less))
all-inside (suc d) (closing ∷ ms) h = ap (λ xs. closing ∷ xs) (all-inside d ms (subst (λ n. ClosesOpen n ms) (one_less d) h.1))
all-inside d (words text ∷ ms) h = ap (λ xs. words text ∷ xs) (all-inside d ms h)
