use Rattle.std.proofs.Common.{◌≡◌, ◌∷◌, false, refl, subst}
use Rattle.core_rules.specs.declared.event.Event.TheVariants.{Remove}
use Rattle.session_rules.specs.Session.{Session}
use Rattle.keeping_rules.specs.Unheard.{IsUnheard}
use Rattle.keeping_rules.proofs.Cancels.{cancelled_kept}
use Rattle.keeping_rules.proofs.Protocols.{protocol_kept}
use Rattle.keeping_rules.proofs.Removals.{removed_kept}
use Rattle.keeping_rules.proofs.laws.change_laws.Goals as goal

pub returns : goal.returns
returns g c = let l = g.L.Language.lang in record {
  cancelled = λ service st message exec given past new a asks_it so.
      cancelled_kept l service st.log new st.session st.last st.holding st.jobs a.sound message exec asks_it a.going given past so
      (c.cancelling_law.ensures service st.session exec given past so)
      (record { items = a.items; waiting = a.waiting; free = a.free });
  removed = λ service st message ids new a asks_it removed.
      removed_kept l service st.log new st.session st.last st.holding st.jobs a.sound message ids asks_it a.going removed
      (Remove ids ∷ st.session.events) refl (record { items = a.items; waiting = a.waiting; free = a.free });
  protocol_set = λ service st message protocol new a asks_it none.
      protocol_kept l service st.log new st.session st.last st.holding st.jobs a.sound message protocol asks_it a.going none
      (subst (λ (s : Session). s.called ≡ false → IsUnheard l s) a.sound.listed.stands
      (c.unheard_law.ensures service st.log.items a.sound.listed.legal) none)
      _ (record { items = a.items; waiting = a.waiting; free = a.free }) refl;
}
