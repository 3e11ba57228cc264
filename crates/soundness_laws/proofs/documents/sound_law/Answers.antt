-- What an editor that sees no error may believe.
use Rattle.session_rules.specs.History.{session}
use Rattle.isar_rules.specs.Isar.{isar}
use Rattle.soundness_laws.proofs.Believing.{laws_from}
use Rattle.soundness_laws.proofs.Beliefs.{sound_settled, sound_shown, sound_told, whole_required}
use Rattle.soundness_laws.proofs.documents.sound_law.Goals as goal

pub returns-clause-shown : goal.returns-clause-shown
returns-clause-shown c = λ service h id v name p legal live place. sound_shown
    (laws_from c.order_law.ensures.every c.order_law.ensures.once c.core_law.ensures.shown
    c.homes_law.ensures.live c.places_law.ensures.there c.sound_facts_law.ensures) service h (c.events_law.ensures.legal service h legal) id v live name p place

pub returns-clause-told : goal.returns-clause-told
returns-clause-told c = λ service h id v name p legal live place. sound_told
    (laws_from c.order_law.ensures.every c.order_law.ensures.once c.core_law.ensures.shown
    c.homes_law.ensures.live c.places_law.ensures.there c.sound_facts_law.ensures) service h (c.events_law.ensures.legal service h legal) id v live name p place

pub returns-clause-settled : goal.returns-clause-settled
returns-clause-settled c = λ service h id v name p legal live place. sound_settled
    (laws_from c.order_law.ensures.every c.order_law.ensures.once c.core_law.ensures.shown
    c.homes_law.ensures.live c.places_law.ensures.there c.sound_facts_law.ensures) service h (c.events_law.ensures.legal service h legal) id v live name p place

pub returns-clause-required : goal.returns-clause-required
returns-clause-required c = λ service h id v p pair legal live at required ordered. whole_required c.covers_law.ensures c.wanted_law.ensures
    (session isar service h).events (c.events_law.ensures.legal service h legal) id v live p pair at required ordered
