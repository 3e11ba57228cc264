-- How ranges stand to one another, and ranges that are moved.
use Rattle.std.specs.Prelude.{ℕ, ◌+◌, ◌≤◌, ◌⊎◌, List}
use Rattle.std.specs.List.{AllByRecursion}
use Rattle.pide_base.specs.declared.range.Range.{Range}
use Rattle.report_markup.specs.declared.report.Report.{Report}

-- the one range stands within the other; so do equal ones
abbrev pub IsWithin : Range → Range → Type 0
IsWithin inner outer = (outer.start ≤ inner.start) × (inner.stop ≤ outer.stop)

-- the ranges are equal, nested or disjoint, as the elements of a document (XML 1.0, section 2.1)
abbrev pub AreTreelike : Range → Range → Type 0
AreTreelike r s = (r.stop ≤ s.start) ⊎ ((s.stop ≤ r.start) ⊎ (IsWithin r s ⊎ IsWithin s r))

-- so are any two of the reports
abbrev pub IsTreelike : List Report → Type 0
IsTreelike reports =
    AllByRecursion (λ a. AllByRecursion (λ b. AreTreelike a.range b.range) reports) reports

-- the range, moved on by so many scalars
abbrev pub moved_range : ℕ → Range → Range
moved_range n range = record { start = n + range.start; stop = n + range.stop }

-- the report with its range moved on
abbrev pub moved : ℕ → Report → Report
moved n r = record r { range = moved_range n r.range }
