-- The test of identifiers joined by dots says yes of these alone.
use Rattle.std.proofs.Common.{◌≡◌, ◌⊎◌, ℕ, ◌<◌, ◌&&◌, ◌==◌, Bool, true, false, List, [], ◌∷◌, ◌++◌, length, sym, refl, ap, ◌∙◌, subst, inl, inr, ⊎_elim, arith}
use Rattle.std.specs.Prelude.{All, if◌then◌else◌}
use Rattle.std.specs.Char.{is_ascii_alphabetic}
use Rattle.std.proofs.lemmas.Bool.{both_ways, and_parts, eqb-true, cond-true}
use Rattle.std.proofs.lemmas.List.Elements.{All-nil, All-cons, All-head, All-tail}
use Rattle.text_words.specs.Identifier.{is_identifier_part, IsIdentifier}
use Rattle.outer_syntax.specs.Forms.{dotted, IsLongIdent}
use Rattle.outer_syntax.specs.Lexing.{is_long_from}

-- these scalars go on with an identifier
abbrev AreParts : List ℕ → Type 0
AreParts s = All (λ d. is_identifier_part d ≡ true) s

-- what is left of identifiers joined by dots, where one begins or goes on
abbrev GoesOn : Bool → (List ℕ → Type 0) → List ℕ → Type 0
GoesOn before First s = (name : List ℕ) × (names : List (List ℕ)) × First name
    × ((before ≡ true) ⊎ (0 < length names)) × All IsIdentifier names × (s ≡ name ++ dotted names)

-- the two cases of a test that goes on with the rest
one-part : (before : Bool) (c : ℕ) (s : List ℕ) (b : Bool) → is_identifier_part c ≡ b → (is_long_from before false s ≡ true → GoesOn before AreParts s) → (is_long_from true true s ≡ true → GoesOn true IsIdentifier s) → (if b then is_long_from before false s else (c == 46 && is_long_from true true s)) ≡ true → GoesOn before AreParts (c ∷ s)
one-part before c s true part parts names e =
    let more = parts e in
    (c ∷ more.0, more.1, All-cons (λ d. is_identifier_part d ≡ true) c more.0 part more.2, more.3, more.4, ap (λ r. c ∷ r) more.5)
one-part before c s false other parts names e =
    let both = and_parts (c == 46) (is_long_from true true s) e in
    let more = names both.1 in
    let dot : c ≡ 46 = eqb-true c 46 both.0 in
    ([], more.0 ∷ more.1, All-nil (λ d. is_identifier_part d ≡ true), inr (omega arith), All-cons IsIdentifier more.0 more.1 more.2 more.4, λ i. dot i ∷ more.5 i)

-- what the test says yes of, at both of its places
abbrev First : Bool → List ℕ → Type 0
First true s = IsIdentifier s
First false s = AreParts s

long-goes-on : (before starts : Bool) (s : List ℕ) → is_long_from before starts s ≡ true → GoesOn before (First starts) s
long-goes-on before true [] e = absurd (both_ways false refl e)
long-goes-on before true (c ∷ s) e =
    let both = and_parts (is_ascii_alphabetic c) (is_long_from before false s) e in
    let more = long-goes-on before false s both.1 in
    (c ∷ more.0, more.1, (both.0, more.2), more.3, more.4, ap (λ r. c ∷ r) more.5)
long-goes-on before false [] e = ([], [], All-nil (λ d. is_identifier_part d ≡ true), inl e, All-nil IsIdentifier, refl)
long-goes-on before false (c ∷ s) e =
    one-part before c s (is_identifier_part c) refl (λ (f : is_long_from before false s ≡ true). long-goes-on before false s f) (λ (f : is_long_from true true s ≡ true). long-goes-on true true s f) e

pub long-tested : (s : List ℕ) → is_long_from false true s ≡ true → IsLongIdent s
long-tested s e =
    let more = long-goes-on false true s e in
    (more.0, more.1, more.2, ⊎_elim (λ (dots : false ≡ true). absurd (both_ways false refl dots)) (λ some. some) more.3, more.4, more.5)

parts-on : (before : Bool) (name rest : List ℕ) → AreParts name → is_long_from before false rest ≡ true → is_long_from before false (name ++ rest) ≡ true
parts-on before [] rest parts e = e
parts-on before (c ∷ name) rest parts e =
    cond-true (is_identifier_part c) (is_long_from before false (name ++ rest)) (c == 46 && is_long_from true true (name ++ rest)) (All-head (λ d. is_identifier_part d ≡ true) c name parts)
    ∙ parts-on before name rest (All-tail (λ d. is_identifier_part d ≡ true) c name parts) e

name-on : (before : Bool) (name rest : List ℕ) → IsIdentifier name → is_long_from before false rest ≡ true → is_long_from before true (name ++ rest) ≡ true
name-on before [] rest id e = absurd id
name-on before (c ∷ name) rest id e = ap (λ b. b && is_long_from before false (name ++ rest)) id.0 ∙ parts-on before name rest id.1 e

dots-on : (before : Bool) (names : List (List ℕ)) → (before ≡ true) ⊎ (0 < length names) → All IsIdentifier names → is_long_from before false (dotted names) ≡ true
dots-on before [] some each = ⊎_elim (λ (yes_before : before ≡ true). yes_before) (λ (none : 0 < 0). absurd (omega arith)) some
dots-on before (x ∷ xs) some each = name-on true x (dotted xs) (All-head IsIdentifier x xs each) (dots-on true xs (inl refl) (All-tail IsIdentifier x xs each))

pub tested-long : (s : List ℕ) → IsLongIdent s → is_long_from false true s ≡ true
tested-long s (name, names, id, some, each, e) =
    subst (λ x. is_long_from false true x ≡ true) (sym e) (name-on false name (dotted names) id (dots-on false names (inr some) each))
