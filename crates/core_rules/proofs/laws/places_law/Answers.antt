use Rattle.core_rules.proofs.Facts.{facts_from}
use Rattle.core_rules.proofs.KnownNamedRows.{there_row}
use Rattle.core_rules.proofs.HomesLaw.{tip_found, tip_once}
use Rattle.core_rules.proofs.laws.places_law.Goals as goal

pub returns-clause-found : goal.returns-clause-found
returns-clause-found g c = λ h e legal is. tip_found
    (facts_from c.order_law.ensures.every c.order_law.ensures.once c.order_law.ensures.behind c.order_law.ensures.ordered
    c.wanted_law.ensures c.aliases_law.ensures.fold c.prefix_law.ensures c.key_law.ensures)
    g.L.Language.lang h legal e is

pub returns-clause-there : goal.returns-clause-there
returns-clause-there g c = λ v name i e row at is. there_row v name i e row at is

pub returns-clause-once : goal.returns-clause-once
returns-clause-once g c = λ h name other i j e r s legal at on here there. tip_once
    (facts_from c.order_law.ensures.every c.order_law.ensures.once c.order_law.ensures.behind c.order_law.ensures.ordered
    c.wanted_law.ensures c.aliases_law.ensures.fold c.prefix_law.ensures c.key_law.ensures)
    g.L.Language.lang h legal name other i j e r s at on here there
