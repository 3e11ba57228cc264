use Rattle.std.proofs.Common.{◌≡◌, ◌≤◌, filter, length, take}
use Rattle.pide_build.specs.Replies.{tells_error}
use Rattle.pide_build.proofs.replies.errors_of.Given as goal

-- the errors so far are counted
abbrev pub invariant-reports : goal.invariant-reports
invariant-reports l =
    (l.count ≡ length (filter (λ report. tells_error report.kind) (take l.report-index l.report-items))) × (l.count ≤ l.report-index)
