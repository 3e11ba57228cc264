use Rattle.isar_rules.proofs.KnownTidy.{isar_tidy}
use Rattle.isar_rules.proofs.laws.tidy_law.Goals as goal

pub returns : goal.returns
returns c = isar_tidy
