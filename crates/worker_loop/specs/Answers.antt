-- What each turn of a worker gives, and a run of a job.
use Rattle.std.specs.Prelude.{◌≡◌, ℕ, Bool, true, false, List, [], ◌∷◌, ◌++◌}
use Rattle.pide_base.specs.Faults.{Rose}
use Rattle.pide_base.specs.declared.part.Part.{Part}
use Rattle.hist_lock.specs.declared.view.View.{View}
use Rattle.worker_loop.specs.declared.said.Said.{Said}
use Rattle.worker_loop.specs.declared.said.Said.TheVariants as said
use Rattle.worker_loop.specs.declared.jobs.Claim.{Claim}
use Rattle.worker_loop.specs.declared.jobs.Claim.TheVariants as claim
use Rattle.worker_loop.specs.declared.jobs.Finish.{Finish}
use Rattle.worker_loop.specs.declared.jobs.Finish.TheVariants as finish
use Rattle.worker_loop.specs.declared.jobs.GiveUp.{GiveUp}
use Rattle.worker_loop.specs.declared.jobs.GiveUp.TheVariants as give_up
use Rattle.worker_loop.specs.declared.jobs.Ran.{Ran}
use Rattle.worker_loop.specs.declared.jobs.Ran.TheVariants as ran
use Rattle.worker_loop.specs.Rounds.{HasSeen}
use Rattle.worker_loop.specs.Stays.{Stays, SeesOn}

module _ {E : Type 0} (says : E → Said) where
  -- the caller made one entry, which says this
  abbrev pub Makes : View E → Said → View E → Type 0
  Makes v what w = (e : E) × (says e ≡ what) × (w.mine ≡ v.mine ++ e ∷ [])

  -- all has ended where the answer is yes; nothing was made
  abbrev pub LookedSo : View E → Bool → View E → Type 0
  LookedSo v true w = SeesOn v w × HasSeen says w said.Ended
  LookedSo v false w = SeesOn v w

  -- the part was finished, or dropped
  abbrev pub FinishedSo : Part → View E → Finish → View E → Type 0
  FinishedSo p v finish.Finished w = Makes v (said.Finished p) w
  FinishedSo p v finish.Dropped w = Makes v (said.Dropped p) w

  -- the part was dropped, or nothing was made and the job is as it was
  abbrev pub GivenUpSo : {J : Type 0} → J → Part → View E → GiveUp J → View E → Type 0
  GivenUpSo job p v give_up.Dropped w = Makes v (said.Dropped p) w
  GivenUpSo job p v (give_up.GoOn back) w = SeesOn v w × (back ≡ job)

  -- the part of the job was claimed; or nothing was made, as the answer says
  abbrev pub ClaimedSo : {J : Type 0} → (List E → Type 0) → (List E → ℕ → Type 0) → (J → Part)
      → (List E → J → Type 0) → View E → Claim J → View E → Type 0
  ClaimedSo legal idle part_of fits v (claim.Job job flag) w =
      Makes v (said.Claimed (part_of job)) w × Stays legal w.seen (λ log. fits log job)
  ClaimedSo legal idle part_of fits v claim.Nothing w = SeesOn v w × idle w.seen w.caller
  ClaimedSo legal idle part_of fits v claim.Ended w = SeesOn v w × HasSeen says w said.Ended
  ClaimedSo legal idle part_of fits v claim.Lost w = SeesOn v w × HasSeen says w said.Lost
  ClaimedSo legal idle part_of fits v claim.NoMemory w = SeesOn v w

module _ {E J D : Type 0} (part_of : J → Part) (part_done : D → Part) (fits : List E → J → Type 0)
    (answers : List E → D → Type 0) (was_stopped : J → Type 0) where
  -- the run gave what the job's part has to give; or it was stopped, by a yes of its stop, with the
  -- job as it was; or it met want of memory, and left a job of the same part that fits wherever
  -- this one did
  abbrev pub RanSo : ℕ → ℕ → J → Ran J D → Type 0
  RanSo before now job (ran.Done done) =
      (part_done done ≡ part_of job) × ((log : List E) → fits log job → answers log done)
  RanSo before now job (ran.Stopped back) = (back ≡ job) × was_stopped back × Rose before now
  RanSo before now job (ran.NoMemory back) =
      (part_of back ≡ part_of job) × ((log : List E) → fits log job → fits log back)
