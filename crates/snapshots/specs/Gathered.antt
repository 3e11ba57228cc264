-- What the parts of a node report, and what is shown of it.
use Rattle.std.specs.Prelude.{ℕ, ◌+◌, ◌<◌, ◌^◌, [], List, Option, Some, None, map}
use Rattle.std.specs.List.{flat_map, AllByRecursion}
use Rattle.std.specs.Borrow.{Bor}
use Rattle.text_edits.specs.declared.edit.Edit.{Edit}
use Rattle.report_markup.specs.declared.report.Report.{Report}
use Rattle.report_markup.specs.Ranges.{moved, moved_range}
use Rattle.report_markup.specs.Sorting.{ordered_reports}
use Rattle.snapshots.specs.declared.part.AssignedPart.{AssignedPart}
use Rattle.snapshots.specs.Converted.{left_by, Fits}

-- a part that isn't finished reports nothing yet
abbrev pub reported : Option (Bor (List Report)) → List Report
reported (Some reports) = reports.now
reported None = []

-- the reports of the finished parts, at the places of the version's text
abbrev pub gathered : List AssignedPart → List Report
gathered parts = flat_map (λ p. map (moved p.span.start) (reported p.reports)) parts

-- what a snapshot shows: the reports of the finished parts, as the edits leave them, in report
-- order (after `Document.Snapshot` of Isabelle/Scala)
abbrev pub snapshot_reports : List Edit → List AssignedPart → List Report
snapshot_reports edits parts = ordered_reports (left_by edits (gathered parts))

-- a report's range can be moved on and converted
abbrev pub Movable : List Edit → ℕ → Report → Type 0
Movable edits n r = (n + r.range.start < 2 ^ 64) × (n + r.range.stop < 2 ^ 64)
    × Fits edits (moved_range n r.range)

-- so can all that the parts report
abbrev pub AllMovable : List Edit → List AssignedPart → Type 0
AllMovable edits parts =
    AllByRecursion (λ p. AllByRecursion (Movable edits p.span.start) (reported p.reports)) parts
