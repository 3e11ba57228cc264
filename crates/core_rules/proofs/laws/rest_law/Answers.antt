use Rattle.core_rules.proofs.Facts.{facts_from}
use Rattle.core_rules.proofs.FirstLaw.{none_ready}
use Rattle.core_rules.proofs.SettledLaw.{all_settled}
use Rattle.core_rules.proofs.laws.rest_law.Goals as goal

pub returns : goal.returns
returns g c = λ h k one legal none idle at. all_settled
    (facts_from c.order_law.ensures.every c.order_law.ensures.once c.order_law.ensures.behind c.order_law.ensures.ordered
    c.wanted_law.ensures c.aliases_law.ensures.fold c.prefix_law.ensures c.key_law.ensures)
    g.L.Language.lang h legal (none_ready g.L.Language.lang h none) idle k one at
