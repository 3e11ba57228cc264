use Rattle.proof_state.specs.Answers.{left}
use Rattle.proof_state.specs.Steps.{step, qed}
use Rattle.command_steps.proofs.MovedLemmas.{of_copy}
use Rattle.command_steps.proofs.stepping.finished.Goals as goal

pub returns : goal.returns
returns c = c.gone_on.ensures (step qed c.args.proof.now)
    (of_copy qed c.in_ok-after.after c.args.proof.now (left c.qed-answer.result c.qed-answer.new.self) c.in_ok-after.ensures c.qed-answer.ensures.step)
