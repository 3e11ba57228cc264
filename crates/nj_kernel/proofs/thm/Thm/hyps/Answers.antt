-- What rises has each member once.
use Rattle.nj_kernel.proofs.RisesLemmas.{rises_once}
use Rattle.nj_kernel.proofs.thm.Thm.hyps.Goals as goal

pub returns-clause-once : goal.returns-clause-once
returns-clause-once c = rises_once _ c.args.self.now.ordered
