-- What every language keeps (this project's own).
use Rattle.std.specs.Prelude.{ℕ, ◌≤◌, if◌then◌else◌, List, [], ◌++◌, length, Option}
use Rattle.std.specs.List.{AllByRecursion}
use Rattle.report_markup.specs.declared.report.Report.{Report}
use Rattle.report_markup.specs.Ranges.{IsWithin, IsTreelike}
use Rattle.language.specs.Lang.{Lang}

-- all that is reported of a command: by its evaluation, its fork where it forks, and its print
abbrev pub reports_of : {S : Type 0} → Lang S → List ℕ → Option (List ℕ) → S → List Report
reports_of lang source blob state =
    let made = lang.step source blob state in
    (made.reports ++ (if made.forks then lang.fork source state else []))
    ++ lang.print source made.state

-- a report lies in the source
abbrev pub LiesIn : List ℕ → Report → Type 0
LiesIn source r = (r.range.start ≤ r.range.stop)
    × IsWithin r.range (record { start = 0; stop = length source })

-- reports lie in the source, and any two of a command's are equal in range, nested or disjoint
pub record AreTidy {S : Type 0} (lang : Lang S) : Type 0 where
  pub lie : (source : List ℕ) (blob : Option (List ℕ)) (state : S)
      → AllByRecursion (LiesIn source) (reports_of lang source blob state)
  pub treelike : (source : List ℕ) (blob : Option (List ℕ)) (state : S)
      → IsTreelike (reports_of lang source blob state)
