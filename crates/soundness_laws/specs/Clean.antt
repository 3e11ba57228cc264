-- Commands without errors (this project's own).
use Rattle.std.specs.Prelude.{◌≡◌, if◌then◌else◌, List, [], ◌++◌}
use Rattle.std.specs.List.{AllByRecursion}
use Rattle.report_markup.specs.declared.report.Report.{Report}
use Rattle.core_rules.specs.Settings.{Setting, made_of, forked}
use Rattle.isar_rules.specs.declared.state.State.{State}
use Rattle.isar_rules.specs.Isar.{isar}
use Rattle.isar_rules.specs.Kept.{errors_in}

-- what a command reports by its evaluation, and by its fork where it forks
abbrev pub told_reports : Setting State → List Report
told_reports s = (made_of isar s).reports ++ (if (made_of isar s).forks then forked isar s else [])

-- it reports no error
abbrev pub IsClean : Setting State → Type 0
IsClean s = errors_in (told_reports s) ≡ []

-- none of these commands does
abbrev pub AreClean : List (Setting State) → Type 0
AreClean = AllByRecursion IsClean
