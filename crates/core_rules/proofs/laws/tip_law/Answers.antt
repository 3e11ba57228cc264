use Rattle.core_rules.proofs.Facts.{facts_from}
use Rattle.core_rules.proofs.TipLaw.{in_tip}
use Rattle.core_rules.proofs.laws.tip_law.Goals as goal

pub returns : goal.returns
returns g c = λ h e legal wanted opened. in_tip
    (facts_from c.order_law.ensures.every c.order_law.ensures.once c.order_law.ensures.behind c.order_law.ensures.ordered
    c.wanted_law.ensures c.aliases_law.ensures.fold c.prefix_law.ensures c.key_law.ensures)
    g.L.Language.lang h e legal wanted opened
