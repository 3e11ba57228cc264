-- What was read is the one answer, so what is made of it is what is judged of the marks.
use Rattle.std.proofs.Common.{Ok, Err, refl, subst}
use Rattle.language.specs.Answers.{IsAnswer}
use Rattle.language.specs.Questions.{AsksSo}
use Rattle.proof_terms.specs.Answers.{Told}
use Rattle.proof_terms.specs.Marks.{marks}
use Rattle.isar_rules.specs.Forks.{judged_reports}
use Rattle.fork_steps.specs.Questions.{questions_of}
use Rattle.fork_steps.proofs.forking.judged.Goals as goal

pub returns-in-Ok-clause-answer : goal.returns-in-Ok-clause-answer
returns-in-Ok-clause-answer g c =
    subst (λ a. IsAnswer c.checked-answer.result (judged_reports c.args.source.now c.args.goal.now c.args.scope.now a) (g.P.Stop.yeses c.args.stop.now) (g.P.Stop.yeses c.checked-answer.new.stop))
    (c.one_answer.ensures.one (marks c.args.source.now c.args.tokens.now) (Ok c.in-Ok.term) c.in-Ok.ensures)
    c.checked-answer.ensures.answer

pub returns-in-Err-Fault-clause-answer : goal.returns-in-Err-Fault-clause-answer
returns-in-Err-Fault-clause-answer g c =
    let read = marks c.args.source.now c.args.tokens.now in
    let yeses = g.P.Stop.yeses c.args.stop.now in
    subst (λ a. IsAnswer c.given.result (judged_reports c.args.source.now c.args.goal.now
    c.args.scope.now a) yeses yeses)
    (c.one_answer.ensures.one read (Err c.in-Err-Fault.fault) (subst (λ e. Told read (Err e)) c.in-Err-Fault.field-0-is c.in-Err-Fault.ensures))
    (c.given.ensures.answer (judged_reports c.args.source.now c.args.goal.now c.args.scope.now (Err c.in-Err-Fault.fault)) yeses yeses c.faulty.ensures)

pub returns-in-Ok-clause-asks : goal.returns-in-Ok-clause-asks
returns-in-Ok-clause-asks g c =
    subst (λ a. AsksSo c.checked-answer.result (questions_of c.args.goal.now c.args.scope.now a) (g.P.Stop.questions c.args.stop.now) (g.P.Stop.questions c.checked-answer.new.stop))
    (c.one_answer.ensures.one (marks c.args.source.now c.args.tokens.now) (Ok c.in-Ok.term) c.in-Ok.ensures)
    c.checked-answer.ensures.asks

pub returns-in-Err-Fault-clause-asks : goal.returns-in-Err-Fault-clause-asks
returns-in-Err-Fault-clause-asks g c =
    let read = marks c.args.source.now c.args.tokens.now in
    let questions = g.P.Stop.questions c.args.stop.now in
    subst (λ a. AsksSo c.given.result (questions_of c.args.goal.now c.args.scope.now a) questions questions)
    (c.one_answer.ensures.one read (Err c.in-Err-Fault.fault) (subst (λ e. Told read (Err e)) c.in-Err-Fault.field-0-is c.in-Err-Fault.ensures))
    (c.given.ensures.asks 0 questions questions refl)
