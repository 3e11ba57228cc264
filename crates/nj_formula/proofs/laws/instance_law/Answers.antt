use Rattle.nj_formula.proofs.KnownInstance.{instance_says}
use Rattle.nj_formula.proofs.laws.instance_law.Goals as goal

pub returns : goal.returns
returns c = λ t f. instance_says t f
