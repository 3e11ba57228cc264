-- What comes of jobs (this project's own).
use Rattle.std.specs.Prelude.{◌≡◌, ℕ, Option, Some, None, Result, Ok, Err}
use Rattle.pide_base.specs.Faults.{Rose}
use Rattle.pide_base.specs.declared.part.Part.{Part}
use Rattle.pide_base.specs.declared.part.PartKind.{PartKind}
use Rattle.pide_base.specs.declared.part.PartKind.TheVariants as kind
use Rattle.core_rules.specs.language_below.declared.answer.Answer.{Answer}
use Rattle.core_rules.specs.language_below.declared.answer.Answer.TheVariants as answer
use Rattle.core_rules.specs.language_below.Lang.{Lang}
use Rattle.core_rules.specs.Settings.{Setting, made_of}
use Rattle.core_rules.specs.Parts.{reports_in}
use Rattle.core_jobs.specs.declared.done.Done.{Done}
use Rattle.core_jobs.specs.declared.done.Evaluated.{Evaluated}
use Rattle.core_jobs.specs.declared.ran.Ran.{Ran}
use Rattle.core_jobs.specs.declared.ran.Ran.TheVariants as ran
use Rattle.core_jobs.specs.Jobs.{JobContent, setting_of}

-- what a part of this kind leaves: an evaluation its state, and whether the command forks
abbrev pub left_in : {S : Type 0} → Lang S → PartKind → Setting S → Option (Evaluated S)
left_in l kind.Eval s = Some (record { state = (made_of l s).state; forks = (made_of l s).forks })
left_in l kind.Fork s = None
left_in l kind.Print s = None

-- what comes of a part in a setting, as one of this kind
abbrev pub done_as : {S : Type 0} → Lang S → PartKind → Part → Setting S → Done S
done_as l k part s = record { part = part; reports = reports_in l k s; made = left_in l k s }

-- what comes of a part in a setting
abbrev pub done_in : {S : Type 0} → Lang S → Part → Setting S → Done S
done_in l part s = done_as l part.kind part s

-- what comes of a job's part
abbrev pub done_by : {S : Type 0} → Lang S → JobContent S → Done S
done_by l job = done_in l job.part (setting_of l job)

-- what is made is given
abbrev pub given : {T E : Type 0} → Result T E → Answer T
given (Ok value) = answer.Given value
given (Err failed) = answer.NoMemory

-- a run gave this, while the stop's count of yeses went from one number to the other: the
-- language's answer, whatever the stop, or the job as it was, stopped only where a yes came
abbrev pub RanSo : {S : Type 0} → Lang S → JobContent S → Ran S → ℕ → ℕ → Type 0
RanSo l job (ran.Done done) before now = done ≡ done_by l job
RanSo l job (ran.Stopped back) before now = (back ≡ job) × Rose before now
RanSo l job (ran.NoMemory back) before now = back ≡ job
