-- What calls of a core answer, and what they add to all that has happened (this project's own).
use Rattle.std.specs.Prelude.{◌≡◌, ◌&&◌, ℕ, true, false, List, ◌∷◌}
use Rattle.pide_base.specs.declared.part.Part.{Part}
use Rattle.core_tables.specs.declared.execs.Cancelling.{Cancelling}
use Rattle.core_tables.specs.declared.execs.Cancelling.TheVariants as cancelling
use Rattle.language.specs.Lang.{Lang}
use Rattle.core_jobs.specs.Jobs.{JobContent}
use Rattle.core_rules.specs.declared.event.Event.{Event}
use Rattle.core_rules.specs.declared.event.Event.TheVariants as event
use Rattle.core_rules.specs.Assigned.{is_assigned}
use Rattle.core_rules.specs.Standing.{is_open}
use Rattle.core_rules.specs.Doc.{doc}
use Rattle.core_rules.specs.Ready.{is_wanted}
use Rattle.prover_core.specs.declared.finishing.Finish.{Finish}
use Rattle.prover_core.specs.declared.finishing.Finish.TheVariants as finish
use Rattle.prover_core.specs.declared.finishing.GiveUp.{GiveUp}
use Rattle.prover_core.specs.declared.finishing.GiveUp.TheVariants as give_up

-- a part is finished where its execution is wanted, else it is let go
abbrev pub FinishedSo : {S : Type 0} → Lang S → ℕ → Part → List Event → Finish → List Event → Type 0
FinishedSo l who p old finish.Finished new =
    (is_wanted (doc l old) p.exec ≡ true) × (new ≡ event.Finished who p ∷ old)
FinishedSo l who p old finish.Dropped new =
    (is_wanted (doc l old) p.exec ≡ false) × (new ≡ event.Dropped who p ∷ old)

-- a part is given up where its execution isn't wanted, else the job goes on as it was
abbrev pub GivenUpSo : {S : Type 0} → Lang S → ℕ → JobContent S → List Event → GiveUp S
    → List Event → Type 0
GivenUpSo l who job old give_up.Dropped new =
    (is_wanted (doc l old) job.part.exec ≡ false) × (new ≡ event.Dropped who job.part ∷ old)
GivenUpSo l who job old (give_up.GoOn back) new =
    (is_wanted (doc l old) job.part.exec ≡ true) × (back ≡ job) × (new ≡ old)

-- what is asked to be cancelled: `Unknown` where no live version assigns it, `Idle` where nothing
-- of it is unfinished or it is cancelled, which is an event without effect
abbrev pub CancelledSo : {S : Type 0} → Lang S → ℕ → List Event → Cancelling → List Event → Type 0
CancelledSo l e old cancelling.Unknown new =
    (is_assigned (doc l old).live e ≡ false) × (new ≡ old)
CancelledSo l e old cancelling.Idle new = (is_assigned (doc l old).live e ≡ true)
    × (is_wanted (doc l old) e && is_open l old (doc l old).homes e ≡ false)
    × (new ≡ event.Cancel e ∷ old)
CancelledSo l e old cancelling.Cancelled new = (is_assigned (doc l old).live e ≡ true)
    × (is_wanted (doc l old) e && is_open l old (doc l old).homes e ≡ true)
    × (new ≡ event.Cancel e ∷ old)
