use Rattle.proof_state.proofs.WorthLemmas.{kept, begins}
use Rattle.proof_state.proofs.laws.kept_law.Goals as goal

pub returns-clause-begins : goal.returns-clause-begins
returns-clause-begins c = begins

pub returns-clause-kept : goal.returns-clause-kept
returns-clause-kept c = kept

pub returns-clause-ends : goal.returns-clause-ends
returns-clause-ends c facts goal worth = worth
