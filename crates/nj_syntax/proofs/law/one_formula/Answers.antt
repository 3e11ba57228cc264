use Rattle.nj_syntax.proofs.KnownAnswers.{one_formula}
use Rattle.nj_syntax.proofs.law.one_formula.Goals as goal

pub returns : goal.returns
returns c = one_formula
