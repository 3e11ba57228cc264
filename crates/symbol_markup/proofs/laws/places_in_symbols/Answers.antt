use Rattle.std.proofs.Common.{◌+◌, length, sym, refl, ap, ◌∙◌, subst, arith}
use Rattle.outer_syntax.specs.Symbols.{AreSymbols, symbols_of}
use Rattle.symbol_markup.specs.Places.{IsSymbolPlace}
use Rattle.symbol_markup.proofs.SymbolCounts.{count-within, all-ended, ended-rises, ended-within, place-is, is-place}
use Rattle.symbol_markup.proofs.laws.places_in_symbols.Goals as goal

pub returns : goal.returns
returns c =
    let are : (text : _) → AreSymbols text (symbols_of text) = λ text. (c.one_symbol_list.ensures.just text (symbols_of text)).1 refl in
    record {
      just = λ text place number within. (place-is text place number (are text) within, λ e. subst (IsSymbolPlace text place) (sym e) (is-place text place (are text) within));
      rises = λ text place later upto. omega (arith, ended-rises place later (symbols_of text) upto);
      behind = λ text place past. ap (λ n. n + 1) (all-ended text 0 (length text) place (symbols_of text) (are text) past ∙ sym (all-ended text 0 (length text) (length text) (symbols_of text) (are text) (omega arith)));
      within = λ text place. omega (arith, ended-within place (symbols_of text), count-within text 0 (length text) (symbols_of text) (are text));
      counted = λ text place. omega (arith, ended-within place (symbols_of text));
    }
