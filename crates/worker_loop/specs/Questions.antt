-- How often a run of a job asks whether to stop (this project's own).
use Rattle.std.specs.Prelude.{◌≡◌, ⊤, ℕ}
use Rattle.pide_base.specs.Questions.{risen_by, IsAskedUpTo}
use Rattle.worker_loop.specs.declared.jobs.Ran.{Ran}
use Rattle.worker_loop.specs.declared.jobs.Ran.TheVariants as ran

-- of the counts of questions before and after: so many were asked, or up to so many where it was
-- stopped
abbrev pub WorkAsks : {J D : Type 0} → Ran J D → ℕ → ℕ → ℕ → Type 0
WorkAsks (ran.Done done) questions before now = now ≡ risen_by questions before
WorkAsks (ran.Stopped job) questions before now = IsAskedUpTo questions before now
WorkAsks (ran.NoMemory job) questions before now = ⊤
