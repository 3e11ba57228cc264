use Rattle.core_rules.proofs.Facts.{facts_from}
use Rattle.core_rules.proofs.HomesLaw.{live_homes, tip_homes, live_made, unmade}
use Rattle.core_rules.proofs.BegunParts.{begun}
use Rattle.core_rules.proofs.laws.homes_law.Goals as goal

pub returns-clause-live : goal.returns-clause-live
returns-clause-live g c = λ h k one e legal at is. live_homes
    (facts_from c.order_law.ensures.every c.order_law.ensures.once c.order_law.ensures.behind c.order_law.ensures.ordered
    c.wanted_law.ensures c.aliases_law.ensures.fold c.prefix_law.ensures c.key_law.ensures)
    g.L.Language.lang h legal k one e at is

pub returns-clause-tip : goal.returns-clause-tip
returns-clause-tip g c = λ h e legal is. tip_homes
    (facts_from c.order_law.ensures.every c.order_law.ensures.once c.order_law.ensures.behind c.order_law.ensures.ordered
    c.wanted_law.ensures c.aliases_law.ensures.fold c.prefix_law.ensures c.key_law.ensures)
    g.L.Language.lang h legal e is

pub returns-clause-made : goal.returns-clause-made
returns-clause-made g c = λ h e legal is. live_made
    (facts_from c.order_law.ensures.every c.order_law.ensures.once c.order_law.ensures.behind c.order_law.ensures.ordered
    c.wanted_law.ensures c.aliases_law.ensures.fold c.prefix_law.ensures c.key_law.ensures)
    g.L.Language.lang h legal e is

pub returns-clause-unmade : goal.returns-clause-unmade
returns-clause-unmade g c = λ h p legal past. unmade g.L.Language.lang h p legal past

pub returns-clause-begun : goal.returns-clause-begun
returns-clause-begun g c = λ h p legal going. begun g.L.Language.lang h p legal going
