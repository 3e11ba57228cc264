use Rattle.std.proofs.Common.{ap, subst}
use Rattle.proof_state.specs.Answers.{Gives}
use Rattle.proof_state.specs.Steps.{step, by}
use Rattle.isar_rules.specs.Proofs.{levels_or}
use Rattle.command_steps.proofs.stepping.closed.Goals as goal

pub returns-in-Ok : goal.returns-in-Ok
returns-in-Ok c = ap levels_or (subst (λ a. Gives (step by c.args.proof.now) a) c.in-Ok.is c.closed.ensures)

pub returns-in-Err : goal.returns-in-Err
returns-in-Err c =
    c.refused.ensures (step by c.args.proof.now) (subst (λ a. Gives (step by c.args.proof.now) a) c.in-Err.is c.closed.ensures)
