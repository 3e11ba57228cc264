use Rattle.std.proofs.Common.{◌∙◌}
use Rattle.proof_state.specs.Answers.{left}
use Rattle.proof_state.specs.Steps.{step, fix}
use Rattle.command_steps.proofs.MovedLemmas.{of_name}
use Rattle.command_steps.proofs.stepping.fixed.Goals as goal

pub returns : goal.returns
returns c = c.gone_on.ensures (step (fix c.args.facts.now c.args.name.now) c.args.proof.now)
    (of_name (fix c.args.facts.now) c.as_str.result.now c.args.name.now c.in_ok-after.after c.args.proof.now (left c.fix-answer.result c.fix-answer.new.self)
    (c.as_str.ensures.value ∙ c.in_ok-name.ensures) c.in_ok-after.ensures c.fix-answer.ensures.step)
