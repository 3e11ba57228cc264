use Rattle.std.proofs.Common.{◌∷◌, refl, subst}
use Rattle.core_rules.specs.declared.event.Event.TheVariants as event
use Rattle.core_rules.specs.Legal.{IsLegal}
use Rattle.session_rules.specs.Session.{Session}
use Rattle.keeping_rules.proofs.Free.{claimed_kept, ended_kept, given_up_kept}
use Rattle.keeping_rules.proofs.Reports.{reported}
use Rattle.keeping_rules.proofs.laws.free_laws.Goals as goal

pub returns : goal.returns
returns g c = let l = g.L.Language.lang in record {
  claimed = λ service st who part new k free going idle ready items waiting room.
      claimed_kept l service st.log new st.session st.last st.holding st.jobs k who free part going idle
      ((c.first_law.ensures.first st.session.events part).0 ready) items waiting room (event.Claimed who part ∷ st.session.events) refl;
  finished = λ service st who work f past holding new k free is so items waiting room less.
      ended_kept l service st.log new st.session st.last st.holding st.jobs k who free work.done.part
      (subst (λ (s : Session). IsLegal l s.events) k.listed.stands (c.history_law.ensures.events service st.log.items k.listed.legal))
      is.holds room holding less work refl
      (reported l st.session (λ done. c.report_law.ensures.told st.session done) (λ job. c.report_law.ensures.source st.session job) who work is)
      f past so items waiting;
  given_up = λ service st who part holding new k free holds unwanted items waiting room less.
      given_up_kept l service st.log new st.session st.last st.holding st.jobs k who free part
      (subst (λ (s : Session). IsLegal l s.events) k.listed.stands (c.history_law.ensures.events service st.log.items k.listed.legal))
      holds room holding less unwanted (event.Dropped who part ∷ st.session.events) refl items waiting;
}
