use Rattle.core_rules.proofs.KnownNumbers.{numbered_within}
use Rattle.core_rules.specs.Doc.{doc}
use Rattle.session_rules.proofs.Keeping.{keeps_front}
use Rattle.session_rules.proofs.MadeParts.{MadeLaws}
use Rattle.session_rules.proofs.Reported.{reports}
use Rattle.session_rules.proofs.history_laws.reports_law.Goals as goal

pub returns : goal.returns
returns g c service h legal =
    let made : MadeLaws g.L.Language.lang = record {
      keeps = keeps_front (record {
        keeps = c.rows_law.ensures.keeps;
        next = c.rows_law.ensures.next;
        within = c.rows_law.ensures.within;
        prints = c.rows_law.ensures.prints;
      }) (λ nodes. record {
        every = c.order_law.ensures.every nodes;
        once = c.order_law.ensures.once nodes;
        inside = λ front rest p pair split at good. c.order_law.ensures.behind nodes front rest p pair split at
            ((c.order_law.ensures.ordered nodes p pair at).1 good);
      });
      within = λ k e so is. let homed = c.homes_law.ensures.tip k e so is in numbered_within (doc g.L.Language.lang k).homes e homed.home homed.homed;
      tip = c.tip_law.ensures;
      told = c.holders_law.ensures.told;
    } in
    reports g.L.Language.lang c.core_law.ensures.each c.places_law.ensures.found made service (c.events_law.ensures.legal service) h legal
