-- What one run of the job of a held part led to.
use Rattle.std.specs.Prelude.{◌≡◌, List, None, Some}
use Rattle.pide_base.specs.declared.part.Part.{Part}
use Rattle.hist_lock.specs.declared.view.View.{View}
use Rattle.worker_loop.specs.declared.said.Said.{Said}
use Rattle.worker_loop.specs.declared.attempt.Attempt.{Attempt}
use Rattle.worker_loop.specs.declared.attempt.Attempt.TheVariants as attempt
use Rattle.worker_loop.specs.Rounds.{GoesOn}
use Rattle.worker_loop.specs.Stays.{SeesOn}

-- the part has its end; or nothing was made, and the job at hand is one of the same part that fits
-- wherever the old one did
abbrev pub AttemptedSo : {E J : Type 0} → (E → Said) → (J → Part) → (List E → J → Type 0) → J
    → View E → Attempt J → View E → Type 0
AttemptedSo says part_of fits job v attempt.Over w = GoesOn says v (Some (part_of job)) w None
AttemptedSo {E} says part_of fits job v (attempt.NoMemory back) w =
    SeesOn v w × (part_of back ≡ part_of job) × ((log : List E) → fits log job → fits log back)
AttemptedSo {E} says part_of fits job v (attempt.GoOn back) w =
    SeesOn v w × (part_of back ≡ part_of job) × ((log : List E) → fits log job → fits log back)
