use Rattle.nj_formula.proofs.KnownTruth.{truth_instance}
use Rattle.nj_formula.proofs.laws.substitution_law.Goals as goal

pub returns : goal.returns
returns g c = λ v t p closed. truth_instance g.S.Structure.apply v t closed g.S.Structure.holds p
