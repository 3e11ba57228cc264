use Rattle.std.proofs.Common.{◌∷◌, refl, subst}
use Rattle.core_rules.specs.declared.event.Event.TheVariants as event
use Rattle.core_rules.specs.Legal.{IsLegal}
use Rattle.session_rules.specs.Session.{Session}
use Rattle.keeping_rules.proofs.Reports.{reported}
use Rattle.keeping_rules.proofs.Steps.{claim_stepped, finish_stepped}
use Rattle.keeping_rules.proofs.laws.step_laws.Goals as goal

pub returns : goal.returns
returns g c = let l = g.L.Language.lang in record {
  claimed = λ service st message who part work jobs new k going asks_it script worker idle ready same right protocol others at items waiting room.
      claim_stepped l service st.log new st.session st.last st.holding st.jobs jobs k message going who others asks_it part idle ready
      ((c.first_law.ensures.first st.session.events part).0 ready) items waiting room work at same right protocol script worker
      (event.Claimed who part ∷ st.session.events) refl;
  finished = λ service st message who work f past holding jobs new k going asks_it is so others gone items waiting less room.
      finish_stepped l service st.log new st.session st.last st.holding st.jobs jobs k message going who others asks_it
      (subst (λ (s : Session). IsLegal l s.events) k.listed.stands (c.history_law.ensures.events service st.log.items k.listed.legal))
      work is.holds
      (reported l st.session (λ done. c.report_law.ensures.told st.session done) (λ job. c.report_law.ensures.source st.session job) who work is)
      gone f past so items waiting holding less room;
}
