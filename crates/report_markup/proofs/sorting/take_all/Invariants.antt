use Rattle.std.proofs.Common.{◌≡◌, ◌+◌, ℕ, length}
use Rattle.std.specs.List.{sum_by}
use Rattle.report_markup.specs.declared.report.Report.{Report}
use Rattle.report_markup.proofs.sorting.take_all.Given as goal

abbrev pub invariant-reports : goal.invariant-reports
invariant-reports l = (measure : Report → ℕ)
    → sum_by measure l.all.items + sum_by measure l.reports ≡ sum_by measure l.fn.all.items + sum_by measure l.fn.reports

abbrev pub decreases-reports : goal.decreases-reports
decreases-reports l = length l.reports
