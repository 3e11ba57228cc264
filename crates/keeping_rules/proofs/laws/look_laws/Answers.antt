use Rattle.keeping_rules.proofs.Kept.{refused_kept, look_kept}
use Rattle.keeping_rules.proofs.laws.look_laws.Goals as goal

pub returns : goal.returns
returns g c = let l = g.L.Language.lang in record {
  refused = λ service st message reason new a refused. refused_kept l service st.log new st.session st.last st.holding st.jobs a.sound message reason
      (record { items = a.items; waiting = a.waiting; free = a.free }) a.going refused;
  looked = λ service st message bytes new a look. look_kept l service st.log new st.session st.last st.holding st.jobs a.sound message bytes
      (record { items = a.items; waiting = a.waiting; free = a.free }) a.going look;
}
