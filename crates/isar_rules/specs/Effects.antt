-- What an accepted command makes.
use Rattle.std.specs.Prelude.{Bool, true, false, List, []}
use Rattle.report_markup.specs.declared.report.Report.{Report}
use Rattle.isar_rules.specs.declared.state.Place.{Place}

-- where the node's commands have come, what is reported beside the command's word, and whether more
-- is worked on behind it
pub record Effect : Type 0 where
  pub place : Place
  pub reports : List Report
  pub forks : Bool

-- a command that does not fork
abbrev pub makes : Place → List Report → Effect
makes place reports = record { place = place; reports = reports; forks = false }

-- one that forks, and has no reports but its word's
abbrev pub forking : Place → Effect
forking place = record { place = place; reports = []; forks = true }
