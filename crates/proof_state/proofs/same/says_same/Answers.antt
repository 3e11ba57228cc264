use Rattle.proof_state.proofs.SameLemmas.{tested}
use Rattle.proof_state.proofs.same.says_same.Goals as goal

pub returns : goal.returns
returns c = tested c.args.one.now c.args.other.now c.same.result c.same.ensures
