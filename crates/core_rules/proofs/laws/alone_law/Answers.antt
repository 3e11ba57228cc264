use Rattle.core_rules.proofs.AloneLaw.{alone_legal, alone_rests, one_way}
use Rattle.core_rules.proofs.laws.alone_law.Goals as goal

pub returns-clause-legal : goal.returns-clause-legal
returns-clause-legal g c = λ h who n legal free ended. (alone_legal g.L.Language.lang who h n legal free ended).0

pub returns-clause-rests : goal.returns-clause-rests
returns-clause-rests g c = λ h who. alone_rests g.L.Language.lang who h

pub returns-clause-one_way : goal.returns-clause-one_way
returns-clause-one_way g c = λ h k who n legal is. one_way g.L.Language.lang who h n k legal is
