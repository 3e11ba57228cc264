use Rattle.soundness_laws.proofs.CitableSteps.{step_citable}
use Rattle.soundness_laws.proofs.commands.citable_states.Goals as goal

pub returns-clause-begins : goal.returns-clause-begins
returns-clause-begins c name imports aliases = tt

pub returns-clause-kept : goal.returns-clause-kept
returns-clause-kept c = step_citable
