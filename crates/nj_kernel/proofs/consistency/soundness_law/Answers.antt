use Rattle.nj_kernel.proofs.TruthLemmas.{sound}
use Rattle.nj_kernel.proofs.consistency.soundness_law.Goals as goal

pub returns : goal.returns
returns g c = λ v s a d all. sound g.S.Structure.apply g.S.Structure.holds d v all
