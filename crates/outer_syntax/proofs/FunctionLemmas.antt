-- The function gives the list of symbols.
use Rattle.std.proofs.Common.{◌≡◌, ℕ, zero, suc, ◌+◌, ◌-◌, ◌<◌, ◌≤◌, Option, None, Some, List, [], ◌∷◌, length, drop, refl, ap, ◌∙◌, subst, arith, length-drop}
use Rattle.std.specs.Prelude.{IsTrue}
use Rattle.std.proofs.lemmas.List.{drop-drop}
use Rattle.text_words.specs.Longest.{FindsLongest, longest_front}
use Rattle.text_words.proofs.KnownFronts.{found-front}
use Rattle.outer_syntax.specs.Names.{IsNamedSymbol, is_named_symbol}
use Rattle.outer_syntax.specs.Symbols.{IsSymbolAt, AreSymbols, AreSymbolsBetween, found_or_one, symbol_len, symbols_from, symbols_of}
use Rattle.outer_syntax.proofs.KnownTests.{named-tested, tested-named}
use Rattle.outer_syntax.proofs.KnownFinds.{finds-as}
use Rattle.outer_syntax.proofs.SymbolLemmas.{named-at, single-at}

named-found : (text : List ℕ) → FindsLongest IsNamedSymbol text (longest_front is_named_symbol text)
named-found text =
    finds-as (λ s. IsTrue (is_named_symbol s)) IsNamedSymbol text _ named-tested tested-named (found-front is_named_symbol text)

at-found : (text rest : List ℕ) (start : ℕ) (o : Option ℕ) → rest ≡ drop start text → 0 < length rest → FindsLongest IsNamedSymbol rest o → IsSymbolAt text start (start + found_or_one o)
at-found text rest start None e some none = single-at text rest start e some none
at-found text rest start (Some n) e some is = named-at text rest start n e is

are-from : (text : List ℕ) (k place at : ℕ) (rest : List ℕ) → rest ≡ drop place text → at ≡ place + k → place ≤ length text → at ≤ length text → AreSymbolsBetween text at (length text) (symbols_from k place rest)
are-from text k place at [] e here before within = omega (arith, ap length e, length-drop place text)
are-from text (suc k) place at (c ∷ cs) e here before within =
    let next : cs ≡ drop (place + 1) text = ap (drop 1) e ∙ drop-drop 1 place text in
    are-from text k (place + 1) at cs next (omega arith) (omega (arith, ap length e, length-drop place text)) within
are-from text zero place at (c ∷ cs) e here before within =
    let n : ℕ = symbol_len (c ∷ cs) in
    let same : place ≡ at = omega arith in
    let is : IsSymbolAt text place (place + n) = at-found text (c ∷ cs) place _ e (omega arith) (named-found (c ∷ cs)) in
    let next : cs ≡ drop (place + 1) text = ap (drop 1) e ∙ drop-drop 1 place text in
    let inside : place + n ≤ length text = omega (arith, is.0, is.1.within, length-drop place text) in (
      same,
      subst (λ p. IsSymbolAt text p (place + n)) same is,
      are-from text (n - 1) (place + 1) (place + n) cs next (omega (arith, is.0)) (omega (arith, ap length e, length-drop place text)) inside,
    )

pub are-symbols : (text : List ℕ) → AreSymbols text (symbols_of text)
are-symbols text = are-from text 0 0 0 text refl refl (omega arith) (omega arith)
