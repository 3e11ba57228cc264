use Rattle.nj_syntax.proofs.KnownAnswers.{formula_answers, formula_is, formula_tells, term_answers, term_is, term_tells}
use Rattle.nj_syntax.proofs.law.one_answer.Goals as goal

pub returns : goal.returns
returns c = record {
  formula = record { has = formula_answers; one = formula_is; tells = formula_tells };
  term = record { has = term_answers; one = term_is; tells = term_tells };
}
