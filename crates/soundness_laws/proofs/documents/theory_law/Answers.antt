use Rattle.soundness_laws.proofs.Believing.{laws_from}
use Rattle.soundness_laws.proofs.Beliefs.{theory_shown}
use Rattle.soundness_laws.proofs.documents.theory_law.Goals as goal

pub returns : goal.returns
returns c service h id v name p legal live place quiet some = theory_shown
    (laws_from c.order_law.ensures.every c.order_law.ensures.once c.core_law.ensures.shown
    c.homes_law.ensures.live c.places_law.ensures.there c.sound_facts_law.ensures) service h (c.events_law.ensures.legal service h legal) id v live name p place
    c.facts_law.ensures.document quiet some
