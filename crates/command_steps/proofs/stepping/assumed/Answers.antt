use Rattle.std.specs.Option.{option_copied}
use Rattle.proof_state.specs.Answers.{left}
use Rattle.proof_state.specs.Steps.{step, assume}
use Rattle.command_steps.proofs.MovedLemmas.{of_both}
use Rattle.command_steps.proofs.stepping.assumed.Goals as goal

pub returns : goal.returns
returns c = c.gone_on.ensures (step (assume (option_copied c.args.name) c.args.formula) c.args.proof.now)
    (of_both (assume (option_copied c.args.name)) (c.in_ok-after.after, c.in_ok-after.formula) c.args.proof.now c.args.formula
    (left c.assume-answer.result c.assume-answer.new.self) c.in_ok-after.ensures c.assume-answer.ensures.step)
