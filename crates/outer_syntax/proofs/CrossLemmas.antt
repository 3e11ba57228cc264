-- A symbol that goes over a place: what it begins with, and what stands before the place.
use Rattle.std.proofs.Common.{◌≡◌, ℕ, zero, suc, ◌+◌, ◌-◌, ◌<◌, ◌≤◌, ◌||◌, ◌==◌, Bool, true, false, List, [], ◌∷◌, ◌++◌, length, get_or, take, drop, sym, refl, ap, ◌∙◌, inl, inr, ⊎_elim, arith, length-take-le, length-append, get_or-take, get_or-drop}
use Rattle.std.proofs.lemmas.Bool.{both_ways, or_cases, or_right, eqb-true}
use Rattle.std.proofs.lemmas.List.{get_or_append_left}
use Rattle.text_words.specs.Identifier.{is_identifier_part}
use Rattle.outer_syntax.specs.Names.{IsClosedName, IsMarkedName, IsNamedSymbol}
use Rattle.outer_syntax.specs.Symbols.{IsSymbolAt}
use Rattle.text_words.proofs.KnownIdentifiers.{identifier-parts}
use Rattle.text_words.specs.Blanks.{is_blank}

-- a scalar that a named symbol has before its last one
abbrev pub is_inner : ℕ → Bool
is_inner c = (c == 92 || c == 60) || (c == 94 || is_identifier_part c)

pub part-inner : (c : ℕ) → is_identifier_part c ≡ true → is_inner c ≡ true
part-inner c part = or_right (c == 92 || c == 60) (c == 94 || is_identifier_part c) (or_right (c == 94) (is_identifier_part c) part)

closed-inner : (s : List ℕ) → IsClosedName s → (j : ℕ) → j + 1 < length s → is_inner (get_or s j 0) ≡ true
closed-inner s (name, id, e) j before =
    let inside : j < length name = omega (arith, ap length e, length-append name (62 ∷ [])) in
    part-inner (get_or s j 0) (ap is_identifier_part (ap (λ r. get_or r j 0) e ∙ get_or_append_left name (62 ∷ []) 0 j inside) ∙ identifier-parts name id j 0 inside)

marked-inner : (s : List ℕ) → IsMarkedName s → (j : ℕ) → j + 1 < length s → is_inner (get_or s j 0) ≡ true
marked-inner s (inl closed) j before = closed-inner s closed j before
marked-inner s (inr (closed, is, e)) zero before = ap is_inner (ap (λ r. get_or r 0 0) e)
marked-inner s (inr (closed, is, e)) (suc j) before = ap is_inner (ap (λ r. get_or r (suc j) 0) e) ∙ closed-inner closed is j (omega (arith, ap length e))

pub named-inner : (s : List ℕ) → IsNamedSymbol s → (j : ℕ) → j + 1 < length s → is_inner (get_or s j 0) ≡ true
named-inner s (marked, is, e) zero before = ap is_inner (ap (λ r. get_or r 0 0) e)
named-inner s (marked, is, e) (suc zero) before = ap is_inner (ap (λ r. get_or r 1 0) e)
named-inner s (marked, is, e) (suc (suc j)) before = ap is_inner (ap (λ r. get_or r (suc (suc j)) 0) e) ∙ marked-inner marked is j (omega (arith, ap length e))

marked-end : (s : List ℕ) → IsMarkedName s → (front : List ℕ) × (s ≡ front ++ 62 ∷ [])
marked-end s (inl (name, id, e)) = (name, e)
marked-end s (inr (closed, (name, id, e'), e)) = (94 ∷ name, e ∙ ap (λ r. 94 ∷ r) e')

pub named-end : (s : List ℕ) → IsNamedSymbol s → (front : List ℕ) × (s ≡ front ++ 62 ∷ [])
named-end s (marked, is, e) = let end = marked-end marked is in (92 ∷ 60 ∷ end.0, e ∙ ap (λ r. 92 ∷ 60 ∷ r) end.1)

-- a symbol that goes over a place
pub record Crosses (text : List ℕ) (start place : ℕ) : Type 0 where
  pub len : ℕ
  pub within : len ≤ length (drop start text)
  pub longer : place < start + len
  pub after : start < place
  pub named : IsNamedSymbol (take len (drop start text))

pub crossing : (text : List ℕ) (start stop place : ℕ) → IsSymbolAt text start stop → start < place → place < stop → Crosses text start place
crossing text start stop place at after before = record {
  len = stop - start;
  within = at.1.within;
  longer = omega arith;
  after = after;
  named = ⊎_elim (λ named. named) (λ (one : length (take (stop - start) (drop start text)) ≡ 1). absurd (omega (arith, one, length-take-le (stop - start) (drop start text) at.1.within))) at.1.fits;
}

module _ {text : List ℕ} {start place : ℕ} (x : Crosses text start place) where
  reads : (j : ℕ) → j < x.len → get_or (take x.len (drop start text)) j 0 ≡ get_or text (start + j) 0
  reads j below = get_or-take x.len (drop start text) j 0 below ∙ get_or-drop start text j 0

  -- it begins with a backslash
  pub first-is : get_or text start 0 ≡ 92
  first-is =
      let same : start + 0 ≡ start = omega arith in
      ap (λ n. get_or text n 0) (sym same) ∙ sym (reads 0 (omega (arith, x.longer, x.after))) ∙ ap (λ r. get_or r 0 0) x.named.2

  -- and the scalar before the place isn't its last
  pub last-is : is_inner (get_or text (place - 1) 0) ≡ true
  last-is =
      let j : ℕ = place - 1 - start in
      let same : start + j ≡ place - 1 = omega (arith, x.after) in
      ap is_inner (ap (λ n. get_or text n 0) (sym same) ∙ sym (reads j (omega (arith, x.longer, x.after))))
      ∙ named-inner (take x.len (drop start text)) x.named j (omega (arith, x.longer, x.after, length-take-le x.len (drop start text) x.within))

pub blank-outer : (c : ℕ) → is_blank c ≡ true → is_inner c ≡ true → ⊥
blank-outer c blank inner =
    ⊎_elim
    (λ (e : ((c == 32 || c == 9) || c == 13) ≡ true).
    ⊎_elim
    (λ (f : (c == 32 || c == 9) ≡ true). ⊎_elim (λ (g : (c == 32) ≡ true). out 32 g refl) (λ (g : (c == 9) ≡ true). out 9 g refl) (or_cases (c == 32) (c == 9) f))
    (λ (f : (c == 13) ≡ true). out 13 f refl)
    (or_cases (c == 32 || c == 9) (c == 13) e))
    (λ (e : (c == 10) ≡ true). out 10 e refl)
    (or_cases ((c == 32 || c == 9) || c == 13) (c == 10) blank)
  where
    out : (d : ℕ) → (c == d) ≡ true → is_inner d ≡ false → ⊥
    out d same outer = both_ways (is_inner d) outer (ap is_inner (sym (eqb-true c d same)) ∙ inner)
