use Rattle.std.proofs.Common.{◌∷◌, refl}
use Rattle.core_rules.specs.declared.event.Event.TheVariants.{Update}
use Rattle.keeping_rules.proofs.Updates.{updated_kept}
use Rattle.keeping_rules.proofs.laws.update_law.Goals as goal

pub returns : goal.returns
returns g c = λ service st message version wanted b new a asks_it newer after fits.
    updated_kept g.L.Language.lang service st.log new st.session st.last st.holding st.jobs a.sound message version wanted asks_it a.going newer b after fits
    _ (record { items = a.items; waiting = a.waiting; free = a.free }) refl
    (Update version b.nodes b.document.blobs ∷ st.session.events) b version refl refl refl
