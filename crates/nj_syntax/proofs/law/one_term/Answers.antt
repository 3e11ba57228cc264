use Rattle.nj_syntax.proofs.KnownAnswers.{one_term}
use Rattle.nj_syntax.proofs.law.one_term.Goals as goal

pub returns : goal.returns
returns c = one_term
