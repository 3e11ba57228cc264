use Rattle.isar_rules.proofs.Keeping.{step-kept}
use Rattle.isar_rules.proofs.laws.refused_law.Goals as goal

pub returns : goal.returns
returns c = step-kept
