use Rattle.std.proofs.Common.{arith}
use Rattle.outer_syntax.proofs.SymbolLemmas.{named-at, single-at}
use Rattle.outer_syntax.proofs.place.symbol_end.Goals as goal

pub returns-in-Some-clause-at : goal.returns-in-Some-clause-at
returns-in-Some-clause-at c = named-at c.args.text.now _ c.args.start c.in-Some.n c.split_at.ensures.back c.in-Some.ensures

pub returns-in-None-clause-at : goal.returns-in-None-clause-at
returns-in-None-clause-at c = single-at c.args.text.now _ c.args.start c.split_at.ensures.back (omega arith) c.in-None.ensures
