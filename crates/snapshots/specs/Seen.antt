-- What stands at ranges of a text.
use Rattle.std.specs.Prelude.{◌≡◌, ℕ, List, map}
use Rattle.std.specs.List.{sum_by}
use Rattle.report_markup.specs.declared.report.Report.{Report}
use Rattle.snapshots.specs.declared.shown.Shown.{Shown}

-- the report, with the range at which it is shown (this project's own)
abbrev pub seen : Shown → Report
seen s = record s.report.now { range = s.range }

-- whatever is counted of them, it is the same: the same reports, each as often
abbrev pub CountsSame : List Shown → List Shown → Type 0
CountsSame before after =
    (measure : Report → ℕ) → sum_by measure (map seen after) ≡ sum_by measure (map seen before)
