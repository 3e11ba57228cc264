use Rattle.std.proofs.Common.{subst}
use Rattle.proof_state.specs.Answers.{Gives, left}
use Rattle.command_steps.proofs.stepping.gone_on.Goals as goal

pub returns : goal.returns
returns g c = λ stepped gives. c.refused.ensures stepped (subst (λ a. Gives stepped (left a c.args.after)) c.in-Err.is gives)
