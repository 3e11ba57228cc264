-- What is shown so far, and what the edits leave of the rest; the rest can be moved.
use Rattle.std.proofs.Common.{◌≡◌, ◌++◌, drop, map}
use Rattle.std.specs.List.{AllByRecursion}
use Rattle.report_markup.specs.Ranges.{moved}
use Rattle.snapshots.specs.Seen.{seen}
use Rattle.snapshots.specs.Converted.{left_by}
use Rattle.snapshots.specs.Gathered.{Movable}
use Rattle.snapshots.proofs.gather.add_reports.Given as goal

abbrev pub invariant-loop-report : goal.invariant-loop-report
invariant-loop-report l = record {
  shown : map seen l.reports.items ++ left_by l.edits (map (moved l.place) (drop l.report-index l.found))
      ≡ map seen l.initial.reports.items ++ left_by l.edits (map (moved l.place) l.found);
  movable : AllByRecursion (Movable l.edits l.place) (drop l.report-index l.found);
}
