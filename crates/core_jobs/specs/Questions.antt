-- How often work on a part asks whether to stop (this project's own).
use Rattle.std.specs.Prelude.{◌≡◌, ⊤, ℕ}
use Rattle.pide_base.specs.Questions.{risen_by, IsAskedUpTo}
use Rattle.pide_base.specs.declared.part.PartKind.{PartKind}
use Rattle.pide_base.specs.declared.part.PartKind.TheVariants as kind
use Rattle.core_rules.specs.language_below.Lang.{Lang}
use Rattle.core_rules.specs.language_below.Questions.{Questions}
use Rattle.core_rules.specs.Settings.{Setting}
use Rattle.core_jobs.specs.declared.ran.Ran.{Ran}
use Rattle.core_jobs.specs.declared.ran.Ran.TheVariants as ran
use Rattle.core_jobs.specs.Jobs.{JobContent, setting_of}

-- of a part of this kind, in a setting; a print never asks
abbrev pub questions_in : {S : Type 0} → Questions S → PartKind → Setting S → ℕ
questions_in q kind.Eval s = q.step s.source s.blob s.state
questions_in q kind.Fork s = q.fork s.source s.state
questions_in q kind.Print s = 0

-- of a job's part
abbrev pub questions_by : {S : Type 0} → Lang S → Questions S → JobContent S → ℕ
questions_by l q job = questions_in q job.part.kind (setting_of l job)

-- of the counts of questions before and after a run: so many were asked, or up to so many where it
-- was stopped
abbrev pub JobAsks : {S : Type 0} → Ran S → ℕ → ℕ → ℕ → Type 0
JobAsks (ran.Done done) questions before now = now ≡ risen_by questions before
JobAsks (ran.Stopped job) questions before now = IsAskedUpTo questions before now
JobAsks (ran.NoMemory job) questions before now = ⊤
