-- By the body that the marks make.
use Rattle.yxml.proofs.Answering.{answer-body, answer-fault}
use Rattle.yxml.proofs.laws.each_text_has_one_answer.Goals as goal

pub returns-clause-body : goal.returns-clause-body
returns-clause-body c = answer-body

pub returns-clause-fault : goal.returns-clause-fault
returns-clause-fault c = answer-fault
