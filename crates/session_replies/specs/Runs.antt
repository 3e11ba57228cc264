-- What comes of runs of a session's jobs (this project's own).
use Rattle.std.specs.Prelude.{◌≡◌, ℕ}
use Rattle.pide_base.specs.Faults.{Rose}
use Rattle.language.specs.Lang.{Lang}
use Rattle.core_jobs.specs.declared.done.Done.{Done}
use Rattle.core_jobs.specs.Runs.{done_by}
use Rattle.session_replies.specs.declared.ran.SessionRan.{SessionRan}
use Rattle.session_replies.specs.declared.ran.SessionRan.TheVariants as ran
use Rattle.session_replies.specs.Works.{Work, WorkDone}

-- what comes of such a job
abbrev pub work_done : {S : Type 0} → Lang S → Work S → WorkDone S
work_done l work = record {
  done = done_by l work.job;
  source = work.job.source;
  protocol = work.protocol;
}

-- a run gave this, while the stop's count of yeses went from one number to the other
abbrev pub RanSo : {S : Type 0} → Lang S → Work S → SessionRan S → ℕ → ℕ → Type 0
RanSo l work (ran.Done done) before now = done ≡ work_done l work
RanSo l work (ran.Stopped back) before now = (back ≡ work) × Rose before now
RanSo l work (ran.NoMemory back) before now = back ≡ work

-- what came of a job's part, with its reply; or the job as it was, for want of memory
abbrev pub ReportedSo : {S : Type 0} → Work S → Done S → SessionRan S → Type 0
ReportedSo work result (ran.Done done) =
    done ≡ record { done = result; source = work.job.source; protocol = work.protocol }
ReportedSo work result (ran.Stopped back) = ⊥
ReportedSo work result (ran.NoMemory back) = back ≡ work
