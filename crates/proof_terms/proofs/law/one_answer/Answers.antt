use Rattle.std.proofs.Common.{List, Result, Ok, Err, refl}
use Rattle.proof_terms.specs.declared.fault.TermFault.{TermFault}
use Rattle.proof_terms.specs.declared.mark.Mark.{Mark}
use Rattle.proof_terms.specs.declared.term.Term.{Term}
use Rattle.proof_terms.specs.Answers.{Answers}
use Rattle.proof_terms.specs.Reading.{deepest, read_term}
use Rattle.proof_terms.proofs.AnsweredLemmas.{AnswersTo, answered, one_whole}
use Rattle.proof_terms.proofs.law.one_answer.Goals as goal

so : (ms : List Mark) (a : Result Term TermFault) → AnswersTo deepest ms a → Answers ms a
so ms (Ok t) h = h
so ms (Err f) h = h

back : (ms : List Mark) (a : Result Term TermFault) → Answers ms a → AnswersTo deepest ms a
back ms (Ok t) h = h
back ms (Err f) h = h

pub returns-clause-has : goal.returns-clause-has
returns-clause-has c = λ ms. so ms _ (answered deepest ms (read_term deepest ms) refl)

pub returns-clause-one : goal.returns-clause-one
returns-clause-one c = λ ms a h. one_whole deepest ms a (back ms a h)
