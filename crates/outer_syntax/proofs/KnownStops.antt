-- Where symbols end.
use Rattle.std.proofs.Common.{◌≡◌, ℕ, ◌-◌, ◌≤◌, List, [], ◌∷◌, length, arith, length-drop}
use Rattle.outer_syntax.specs.Symbols.{AreSymbolsBetween, IsSymbolAt}

-- at one place the longest symbol ends at one place
pub same-stop : (text : List ℕ) (start a b : ℕ) → IsSymbolAt text start a → IsSymbolAt text start b → a ≡ b
same-stop text start a b one other =
    let below : a - start ≤ b - start = other.1.longest (a - start) one.1.within one.1.fits in
    let above : b - start ≤ a - start = one.1.longest (b - start) other.1.within other.1.fits in
    omega (arith, one.0, other.0)

-- the end of symbols from a place of a text on is a place of it
pub place-within : (text : List ℕ) (from place : ℕ) (before : List (ℕ × ℕ))
    → AreSymbolsBetween text from place before → from ≤ length text → place ≤ length text
place-within text from place [] is within = omega arith
place-within text from place (b ∷ bs) is within =
    place-within text b.1 place bs is.2
    (omega (arith, is.1.0, is.1.1.within, length-drop from text))
