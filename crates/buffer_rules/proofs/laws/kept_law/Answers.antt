use Rattle.buffer_rules.proofs.NumberLaws.{kept_so}
use Rattle.buffer_rules.proofs.laws.kept_law.Goals as goal

pub returns : goal.returns
returns c before now = kept_so before now
