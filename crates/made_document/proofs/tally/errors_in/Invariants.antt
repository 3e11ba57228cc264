-- What was counted, and what is left to count, make up the number.
use Rattle.std.proofs.Common.{◌≡◌, ◌+◌, ◌≤◌, length, filter, drop}
use Rattle.made_document.specs.Summary.{is_error}
use Rattle.made_document.proofs.tally.errors_in.Given as goal

abbrev pub invariant-reports : goal.invariant-reports
invariant-reports l = (l.errors + length (filter is_error (drop l.report-index l.reports)) ≡ length (filter is_error l.reports))
    × (l.errors ≤ l.report-index)
