-- What was added and what is left come to all, and what is left lies in the source.
use Rattle.std.proofs.Common.{◌≡◌, ◌+◌, ℕ, length, map}
use Rattle.std.specs.List.{sum_by, AllByRecursion}
use Rattle.report_markup.specs.declared.report.Report.{Report}
use Rattle.report_markup.specs.Ranges.{moved}
use Rattle.language.specs.Laws.{LiesIn as ReportLiesIn}
use Rattle.node_check.proofs.commands.add_moved.Given as goal

abbrev pub invariant-reports : goal.invariant-reports
invariant-reports l = ((measure : Report → ℕ)
    → sum_by measure l.all.items + sum_by measure (map (moved l.start) l.reports)
    ≡ sum_by measure l.fn.all.items + sum_by measure (map (moved l.start) l.fn.reports))
    × AllByRecursion (ReportLiesIn l.source) l.reports

abbrev pub decreases-reports : goal.decreases-reports
decreases-reports l = length l.reports
