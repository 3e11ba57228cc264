use Rattle.proof_state.specs.Answers.{left}
use Rattle.proof_state.specs.Steps.{step, next}
use Rattle.command_steps.proofs.MovedLemmas.{of_copy}
use Rattle.command_steps.proofs.stepping.begun_anew.Goals as goal

pub returns : goal.returns
returns c = c.gone_on.ensures (step next c.args.proof.now)
    (of_copy next c.in_ok-after.after c.args.proof.now (left c.next-answer.result c.next-answer.new.self) c.in_ok-after.ensures c.next-answer.ensures.step)
