use Rattle.core_rules.proofs.CoreLaw.{update_covers}
use Rattle.core_rules.proofs.Facts.{facts_from}
use Rattle.core_rules.proofs.laws.covers_law.Goals as goal

pub returns : goal.returns
returns g c = λ h id nodes blobs p pair legal at. update_covers
    (facts_from c.order_law.ensures.every c.order_law.ensures.once c.order_law.ensures.behind c.order_law.ensures.ordered
    c.wanted_law.ensures c.aliases_law.ensures.fold c.prefix_law.ensures c.key_law.ensures)
    g.L.Language.lang h id nodes blobs legal p pair at
