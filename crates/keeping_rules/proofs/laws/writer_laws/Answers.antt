use Rattle.std.proofs.Common.{refl}
use Rattle.session_rules.specs.Session.{with_event}
use Rattle.core_rules.specs.declared.event.Event.TheVariants as event
use Rattle.keeping_rules.specs.Items.{writer_of}
use Rattle.keeping_rules.proofs.Kept.{ended_kept}
use Rattle.keeping_rules.proofs.SentReplies.{sent_kept, lost_kept}
use Rattle.keeping_rules.proofs.laws.writer_laws.Goals as goal

pub returns : goal.returns
returns g c = let l = g.L.Language.lang in record {
  ended = λ service st new k going items waiting free.
      ended_kept l service st.log new st.session st.last st.holding st.jobs k (with_event st.session event.Ended) refl items waiting free going;
  sent = λ service st bytes new k so free.
      sent_kept l service st.log new st.session st.last st.holding st.jobs k free (writer_of service) bytes refl so;
  lost = λ service st new k going items waiting free.
      lost_kept l service st.log new st.session st.last st.holding st.jobs k free (writer_of service) refl going items waiting;
}
