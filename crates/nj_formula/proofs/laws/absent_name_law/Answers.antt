use Rattle.std.proofs.Common.{[]}
use Rattle.nj_formula.proofs.KnownAbsent.{truth_renamed}
use Rattle.nj_formula.proofs.laws.absent_name_law.Goals as goal

pub returns : goal.returns
returns g c = λ v x d s absent. truth_renamed g.S.Structure.apply v x d g.S.Structure.holds [] s absent
