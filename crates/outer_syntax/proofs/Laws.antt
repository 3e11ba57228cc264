-- There is one list of symbols between two places, and it joins to the text between them.
use Rattle.std.proofs.Common.{◌≡◌, ℕ, ◌-◌, ◌<◌, ◌≤◌, List, [], ◌∷◌, length, sym, refl, ap, ◌∙◌, subst, arith}
use Rattle.text_words.specs.Pieces.{joined, Tiles}
use Rattle.text_words.proofs.KnownPieces.{tiles-whole}
use Rattle.outer_syntax.specs.Symbols.{IsSymbolAt, AreSymbols, AreSymbolsBetween, IsBoundary, IsInside}
use Rattle.outer_syntax.proofs.KnownStops.{same-stop}

-- places only rise
pub rises : (text : List ℕ) (from to : ℕ) (ss : List (ℕ × ℕ)) → AreSymbolsBetween text from to ss → from ≤ to
rises text from to [] same = omega arith
rises text from to (s ∷ ss) symbols = omega (arith, symbols.1.0, rises text s.1 to ss symbols.2)

pub one-between : (text : List ℕ) (from to : ℕ) (a b : List (ℕ × ℕ)) → AreSymbolsBetween text from to a → AreSymbolsBetween text from to b → a ≡ b
one-between text from to [] [] one other = refl
one-between text from to [] (t ∷ ts) one other = absurd (omega (arith, other.1.0, rises text t.1 to ts other.2))
one-between text from to (s ∷ ss) [] one other = absurd (omega (arith, one.1.0, rises text s.1 to ss one.2))
one-between text from to (s ∷ ss) (t ∷ ts) one other =
    let starts : s.0 ≡ t.0 = one.0 ∙ sym other.0 in
    let stops : s.1 ≡ t.1 = same-stop text from s.1 t.1 one.1 other.1 in
    let heads : s ≡ t = λ i. (starts i, stops i) in
    let tails : ss ≡ ts = one-between text s.1 to ss ts one.2 (subst (λ x. AreSymbolsBetween text x to ts) (sym stops) other.2) in
    λ i. heads i ∷ tails i

-- two cuts from one place: a symbol of the one isn't passed over by the other
pub no-crossing : (text : List ℕ) (from place start stop : ℕ) (a b : List (ℕ × ℕ)) → AreSymbolsBetween text from place a → AreSymbolsBetween text from start b → IsSymbolAt text start stop → start < place → place < stop → ⊥
no-crossing text from place start stop [] b one other at after before = omega (arith, rises text from start b other)
no-crossing text from place start stop (s ∷ ss) [] one other at after before =
    omega (arith, same-stop text from s.1 stop one.1 (subst (λ x. IsSymbolAt text x stop) (sym other) at), rises text s.1 place ss one.2)
no-crossing text from place start stop (s ∷ ss) (t ∷ ts) one other at after before =
    let stops : s.1 ≡ t.1 = same-stop text from s.1 t.1 one.1 other.1 in
    no-crossing text s.1 place start stop ss ts one.2 (subst (λ x. AreSymbolsBetween text x start ts) (sym stops) other.2) at after before

-- symbols tile what lies between two places
tiles : (text : List ℕ) (from to : ℕ) (ss : List (ℕ × ℕ)) → AreSymbolsBetween text from to ss → Tiles from to ss
tiles text from to [] same = same
tiles text from to (s ∷ ss) symbols = (symbols.0, omega (arith, symbols.0, symbols.1.0), tiles text s.1 to ss symbols.2)

pub joined-all : (text : List ℕ) (ss : List (ℕ × ℕ)) → AreSymbols text ss → joined text ss ≡ text
joined-all text ss symbols = tiles-whole text ss (tiles text 0 (length text) ss symbols)

pub one-number : (text : List ℕ) (m n place : ℕ) → IsBoundary text m place → IsBoundary text n place → m ≡ n
one-number text m n place one other =
    sym one.2 ∙ ap length (one-between text 0 place one.0 other.0 one.1 other.1) ∙ other.2

pub boundary-apart : (text : List ℕ) (m n place : ℕ) → IsBoundary text m place → IsInside text n place → ⊥
boundary-apart text m n place boundary inside =
    no-crossing text 0 place inside.0 inside.1 boundary.0 inside.2.0 boundary.1 inside.2.1 inside.3 inside.4 inside.5
