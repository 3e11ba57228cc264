use Rattle.proof_state.specs.Answers.{left}
use Rattle.proof_state.specs.Steps.{step, proof as opens}
use Rattle.command_steps.proofs.MovedLemmas.{of_copy}
use Rattle.command_steps.proofs.stepping.opened.Goals as goal

pub returns : goal.returns
returns c = c.gone_on.ensures (step (opens c.args.dash) c.args.proof.now)
    (of_copy (opens c.args.dash) c.in_ok-after.after c.args.proof.now (left c.proof-answer.result c.proof-answer.new.self) c.in_ok-after.ensures c.proof-answer.ensures.step)
