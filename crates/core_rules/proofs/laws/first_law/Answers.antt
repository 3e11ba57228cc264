use Rattle.core_rules.proofs.FirstLaw.{given_first, first_given, none_ready, ready_none}
use Rattle.core_rules.proofs.laws.first_law.Goals as goal

pub returns-clause-first : goal.returns-clause-first
returns-clause-first g c = λ h p. (given_first g.L.Language.lang h p, first_given g.L.Language.lang h p)

pub returns-clause-none : goal.returns-clause-none
returns-clause-none g c = λ h. (none_ready g.L.Language.lang h, ready_none g.L.Language.lang h)
