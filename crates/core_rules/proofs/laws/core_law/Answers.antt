use Rattle.core_rules.proofs.Facts.{facts_from}
use Rattle.core_rules.proofs.CoreLaw.{all_from_scratch, all_shown}
use Rattle.core_rules.proofs.KnownStays.{setting_stays}
use Rattle.core_rules.proofs.laws.core_law.Goals as goal

pub returns-clause-each : goal.returns-clause-each
returns-clause-each g c = λ h k one legal at. all_from_scratch
    (facts_from c.order_law.ensures.every c.order_law.ensures.once c.order_law.ensures.behind c.order_law.ensures.ordered
    c.wanted_law.ensures c.aliases_law.ensures.fold c.prefix_law.ensures c.key_law.ensures)
    g.L.Language.lang h legal k one at

pub returns-clause-shown : goal.returns-clause-shown
returns-clause-shown g c = λ h k one name legal at. all_shown
    (facts_from c.order_law.ensures.every c.order_law.ensures.once c.order_law.ensures.behind c.order_law.ensures.ordered
    c.wanted_law.ensures c.aliases_law.ensures.fold c.prefix_law.ensures c.key_law.ensures)
    g.L.Language.lang h legal k one at name

pub returns-clause-stays : goal.returns-clause-stays
returns-clause-stays g c = λ x h e s at. setting_stays g.L.Language.lang x h e s at
