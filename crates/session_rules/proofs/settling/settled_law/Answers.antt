-- What the laws of events come to.
use Rattle.std.proofs.Common.{ap, ◌∙◌}
use Rattle.session_rules.specs.declared.service.Service.TheVariants.{Workers}
use Rattle.session_rules.proofs.Settled.{EventLaws, all_done, reported}
use Rattle.session_rules.proofs.Kept.{live_is}
use Rattle.core_tables.specs.Live.{version_of}
use Rattle.session_rules.proofs.settling.settled_law.Goals as goal

pub returns-clause-live : goal.returns-clause-live
returns-clause-live g c = λ count h u legal is.
    let laws : EventLaws g.L.Language.lang = record {
      legal = λ n k. c.events_law.ensures.legal (Workers n) k;
      told = c.holders_law.ensures.told;
      homed = c.homes_law.ensures.live;
      there = c.places_law.ensures.there;
      shown = c.core_law.ensures.shown;
    } in
    live_is g.L.Language.lang u _ (all_done g.L.Language.lang u laws count h legal is).0

pub returns-clause-shown : goal.returns-clause-shown
returns-clause-shown g c = λ count h u version name legal is at.
    let laws : EventLaws g.L.Language.lang = record {
      legal = λ n k. c.events_law.ensures.legal (Workers n) k;
      told = c.holders_law.ensures.told;
      homed = c.homes_law.ensures.live;
      there = c.places_law.ensures.there;
      shown = c.core_law.ensures.shown;
    } in
    reported g.L.Language.lang u laws count h legal is version name
    (ap (λ lives. version_of lives u.second) (live_is g.L.Language.lang u _ (all_done g.L.Language.lang u laws count h legal is).0) ∙ at)
