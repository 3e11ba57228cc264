use Rattle.proof_state.specs.Answers.{left}
use Rattle.proof_state.specs.Steps.{step, show}
use Rattle.command_steps.proofs.MovedLemmas.{of_both}
use Rattle.command_steps.proofs.stepping.shown.Goals as goal

pub returns : goal.returns
returns c = c.gone_on.ensures (step (show c.args.formula) c.args.proof.now)
    (of_both show (c.in_ok-after.after, c.in_ok-after.formula) c.args.proof.now c.args.formula
    (left c.show-answer.result c.show-answer.new.self) c.in_ok-after.ensures c.show-answer.ensures.step)
