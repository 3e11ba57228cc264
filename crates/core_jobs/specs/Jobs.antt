-- What jobs work on (this project's own).
use Rattle.std.specs.Prelude.{ℕ, List, Option}
use Rattle.pide_base.specs.declared.part.Part.{Part}
use Rattle.core_rules.specs.language_below.Lang.{Lang}
use Rattle.core_rules.specs.Settings.{Setting}
use Rattle.core_jobs.specs.declared.input.Input.{Input}
use Rattle.core_jobs.specs.declared.input.Input.TheVariants.{State, Start}

-- what contracts see of a job: its part, the command's source and blob, and what it takes up
pub record JobContent (S : Type 0) : Type 0 where
  pub part : Part
  pub source : List ℕ
  pub blob : Option (List ℕ)
  pub input : Input S

-- the state that is taken up: one that is there, or the one that a node begins with
abbrev pub taken_from : {S : Type 0} → Lang S → Input S → S
taken_from l (State state) = state
taken_from l (Start head imports) = l.start head.node imports head.aliases

-- the command with its blob, in a state
abbrev pub setting_in : {S : Type 0} → JobContent S → S → Setting S
setting_in job state = record { source = job.source; blob = job.blob; state = state }

-- the command with its blob, in the state that the job takes up
abbrev pub setting_of : {S : Type 0} → Lang S → JobContent S → Setting S
setting_of l job = setting_in job (taken_from l job.input)
