use Rattle.proof_state.proofs.SameLemmas.{same_iff}
use Rattle.proof_state.proofs.laws.same_law.Goals as goal

pub returns : goal.returns
returns c = same_iff
