-- Jobs and what comes of them, among executions (this project's own).
use Rattle.std.specs.Prelude.{◌≡◌, List, Some}
use Rattle.std.specs.Option.{option_map}
use Rattle.core_rules.specs.exec_rules_below.declared.home.Home.{Home}
use Rattle.core_rules.specs.language_below.Lang.{Lang}
use Rattle.core_rules.specs.Settings.{setting}
use Rattle.core_jobs.specs.declared.done.Done.{Done}
use Rattle.core_jobs.specs.Jobs.{JobContent, setting_of}
use Rattle.core_jobs.specs.Runs.{done_in}

-- the job works on what its part's execution works on, where executions go by these homes
abbrev pub IsJobOf : {S : Type 0} → Lang S → List Home → JobContent S → Type 0
IsJobOf l homes job = setting l homes job.part.exec ≡ Some (setting_of l job)

-- it is what comes of its part, where executions go by these homes
abbrev pub IsDoneOf : {S : Type 0} → Lang S → List Home → Done S → Type 0
IsDoneOf l homes done =
    option_map (done_in l done.part) (setting l homes done.part.exec) ≡ Some done
