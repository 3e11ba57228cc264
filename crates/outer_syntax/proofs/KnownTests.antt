-- The tests of named symbols say yes of these alone.
use Rattle.std.proofs.Common.{◌≡◌, ℕ, ◌-◌, ◌&&◌, ◌==◌, Bool, true, false, List, [], ◌∷◌, ◌++◌, length, take, drop, sym, refl, ap, ◌∙◌, subst, inl, inr, arith, length-append}
use Rattle.std.specs.Prelude.{if◌then◌else◌}
use Rattle.std.proofs.lemmas.Bool.{both_ways, and_parts, eqb-true, cond-false}
use Rattle.std.proofs.lemmas.List.{take_at, drop_at, take-append-drop}
use Rattle.text_words.specs.Identifier.{is_identifier}
use Rattle.text_words.proofs.KnownIdentifiers.{identifier-tested, tested-identifier}
use Rattle.outer_syntax.specs.Names.{IsClosedName, IsMarkedName, IsNamedSymbol, is_bracket, is_closed_name, is_marked_name, is_named_symbol}
use Rattle.outer_syntax.proofs.NameLemmas.{no-caret}

bracket-tested : (s : List ℕ) → is_bracket s ≡ true → s ≡ 62 ∷ []
bracket-tested [] e = absurd (both_ways false refl e)
bracket-tested (c ∷ []) e = ap (λ x. x ∷ []) (eqb-true c 62 e)
bracket-tested (c ∷ d ∷ s) e = absurd (both_ways false refl e)

closed-tested : (s : List ℕ) → is_closed_name s ≡ true → IsClosedName s
closed-tested s e =
    let n : ℕ = length s - 1 in
    let parts = and_parts (is_identifier (take n s)) (is_bracket (drop n s)) e in (
      take n s,
      identifier-tested (take n s) parts.0,
      sym (take-append-drop n s) ∙ ap (λ r. take n s ++ r) (bracket-tested (drop n s) parts.1),
    )

tested-closed : (s : List ℕ) → IsClosedName s → is_closed_name s ≡ true
tested-closed s (name, id, e) =
    let len : length s - 1 ≡ length name = omega (arith, ap length e, length-append name (62 ∷ [])) in
    let front : take (length s - 1) s ≡ name = (λ i. take (len i) (e i)) ∙ take_at name (62 ∷ []) (length name) refl in
    let rest : drop (length s - 1) s ≡ 62 ∷ [] = (λ i. drop (len i) (e i)) ∙ drop_at name (62 ∷ []) (length name) refl in
    (λ i. is_identifier (front i) && is_bracket (rest i)) ∙ ap (λ b. b && true) (tested-identifier name id)

marked-tested : (s : List ℕ) → is_marked_name s ≡ true → IsMarkedName s
marked-tested [] e = absurd (both_ways false refl e)
marked-tested (c ∷ s) e = go (c == 94) refl e where
  go : (b : Bool) → (c == 94) ≡ b → (if b then is_closed_name s else is_closed_name (c ∷ s)) ≡ true → IsMarkedName (c ∷ s)
  go true same e = inr (s, closed-tested s e, ap (λ x. x ∷ s) (eqb-true c 94 same))
  go false other e = inl (closed-tested (c ∷ s) e)

tested-marked : (s : List ℕ) → IsMarkedName s → is_marked_name s ≡ true
tested-marked s (inr (closed, is, e)) = subst (λ x. is_marked_name x ≡ true) (sym e) (tested-closed closed is)
tested-marked [] (inl closed) = absurd (omega (arith, ap length closed.2, length-append closed.0 (62 ∷ [])))
tested-marked (c ∷ s) (inl closed) = go (c == 94) refl where
  go : (b : Bool) → (c == 94) ≡ b → is_marked_name (c ∷ s) ≡ true
  go true same = absurd (no-caret (c ∷ s) s closed (ap (λ x. x ∷ s) (eqb-true c 94 same)))
  go false other = cond-false (c == 94) (is_closed_name s) (is_closed_name (c ∷ s)) other ∙ tested-closed (c ∷ s) closed

pub named-tested : (s : List ℕ) → is_named_symbol s ≡ true → IsNamedSymbol s
named-tested [] e = absurd (both_ways false refl e)
named-tested (a ∷ []) e = absurd (both_ways false refl e)
named-tested (a ∷ b ∷ s) e =
    let first = and_parts (a == 92) (b == 60 && is_marked_name s) e in
    let second = and_parts (b == 60) (is_marked_name s) first.1 in
    let one : a ≡ 92 = eqb-true a 92 first.0 in
    let two : b ≡ 60 = eqb-true b 60 second.0 in
    (s, marked-tested s second.1, λ i. one i ∷ two i ∷ s)

pub tested-named : (s : List ℕ) → IsNamedSymbol s → is_named_symbol s ≡ true
tested-named s (marked, is, e) = subst (λ x. is_named_symbol x ≡ true) (sym e) (tested-marked marked is)
