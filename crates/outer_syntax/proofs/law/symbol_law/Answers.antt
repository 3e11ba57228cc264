use Rattle.outer_syntax.proofs.SymbolLaw.{tokens-apart}
use Rattle.outer_syntax.proofs.law.symbol_law.Goals as goal

pub returns : goal.returns
returns c = tokens-apart
