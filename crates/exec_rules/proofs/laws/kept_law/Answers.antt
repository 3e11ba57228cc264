use Rattle.exec_rules.proofs.KeptLaws.{kept_all, kept_greatest}
use Rattle.exec_rules.proofs.laws.kept_law.Goals as goal

pub returns-clause-all : goal.returns-clause-all
returns-clause-all c = kept_all

pub returns-clause-greatest : goal.returns-clause-greatest
returns-clause-greatest c = kept_greatest
