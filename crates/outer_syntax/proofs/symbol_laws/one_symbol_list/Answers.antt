use Rattle.std.proofs.Common.{length, sym, subst}
use Rattle.outer_syntax.specs.Symbols.{AreSymbols, symbols_of}
use Rattle.outer_syntax.proofs.Laws.{one-between, joined-all, one-number, boundary-apart}
use Rattle.outer_syntax.proofs.FunctionLemmas.{are-symbols}
use Rattle.outer_syntax.proofs.symbol_laws.one_symbol_list.Goals as goal

pub returns : goal.returns
returns c = record {
  just = λ text ss. (λ is. one-between text 0 (length text) ss (symbols_of text) is (are-symbols text), λ e. subst (AreSymbols text) (sym e) (are-symbols text));
  joins = joined-all;
  number = one-number;
  apart = boundary-apart;
}
