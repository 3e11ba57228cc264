-- The longest symbol at the front of a text, and the symbols up to a place.
use Rattle.std.proofs.Common.{◌≡◌, ℕ, ◌+◌, ◌-◌, ◌<◌, List, [], ◌∷◌, ◌++◌, length, take, drop, sym, refl, ap, ◌∙◌, subst, inl, inr, ⊎_elim, arith, length-take-le}
use Rattle.text_words.specs.Longest.{IsLongest, HasNoFront}
use Rattle.outer_syntax.specs.Names.{IsNamedSymbol}
use Rattle.outer_syntax.specs.Symbols.{IsSymbol, IsSymbolAt, AreSymbolsBetween, IsBoundary}
use Rattle.std.proofs.lemmas.List.{length_push}

-- a named symbol has more than two scalars
named-long : (s : List ℕ) (n : ℕ) → IsLongest IsNamedSymbol s n → 1 < n
named-long s n named =
    omega (arith, length-take-le n s named.within, ap length named.fits.2)

-- where a named symbol stands, it is the longest symbol
pub named-longest : (s : List ℕ) (n : ℕ) → IsLongest IsNamedSymbol s n → IsLongest IsSymbol s n
named-longest s n named = record {
  within = named.within;
  fits = inl named.fits;
  longest = λ m within. ⊎_elim (named.longest m within) (λ (one : length (take m s) ≡ 1). omega (arith, named-long s n named, length-take-le m s within));
}

-- elsewhere it is one scalar
pub single-longest : (s : List ℕ) → HasNoFront IsNamedSymbol s → 0 < length s → IsLongest IsSymbol s 1
single-longest s none nonempty = record {
  within = omega arith;
  fits = inr (length-take-le 1 s (omega arith));
  longest = λ m within. ⊎_elim (λ named. absurd (none m within named)) (λ (one : length (take m s) ≡ 1). omega (arith, length-take-le m s within));
}

-- the longest symbol of the rest ends so many scalars on
at-place : (text : List ℕ) (start n : ℕ) → 0 < n → IsLongest IsSymbol (drop start text) n → IsSymbolAt text start (start + n)
at-place text start n positive longest =
    let same : start + n - start ≡ n = omega arith in
    (omega arith, subst (IsLongest IsSymbol (drop start text)) (sym same) longest)

pub named-at : (text rest : List ℕ) (start n : ℕ) → rest ≡ drop start text → IsLongest IsNamedSymbol rest n → IsSymbolAt text start (start + n)
named-at text rest start n e named =
    at-place text start n (omega (arith, named-long rest n named)) (subst (λ r. IsLongest IsSymbol r n) e (named-longest rest n named))

pub single-at : (text rest : List ℕ) (start : ℕ) → rest ≡ drop start text → 0 < length rest → HasNoFront IsNamedSymbol rest → IsSymbolAt text start (start + 1)
single-at text rest start e nonempty none =
    at-place text start 1 (omega arith) (subst (λ r. IsLongest IsSymbol r 1) e (single-longest rest none nonempty))

-- one symbol more
pub between-push : (text : List ℕ) (from middle to : ℕ) (before : List (ℕ × ℕ)) → AreSymbolsBetween text from middle before → IsSymbolAt text middle to → AreSymbolsBetween text from to (before ++ (middle, to) ∷ [])
between-push text from middle to [] same at = (sym same, subst (λ x. IsSymbolAt text x to) (sym same) at, refl)
between-push text from middle to (s ∷ ss) symbols at = (symbols.0, symbols.1, between-push text s.1 middle to ss symbols.2 at)

-- one boundary more
pub boundary-more : (text : List ℕ) (symbol start stop : ℕ) → IsBoundary text symbol start → IsSymbolAt text start stop → IsBoundary text (symbol + 1) stop
boundary-more text symbol start stop boundary at = (
  boundary.0 ++ (start, stop) ∷ [],
  between-push text 0 start stop boundary.0 boundary.1 at,
  length_push boundary.0 (start, stop) ∙ ap (λ n. n + 1) boundary.2,
)
