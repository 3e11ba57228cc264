-- What is shown so far, and what the edits leave of the rest, counted in any way.
use Rattle.std.proofs.Common.{◌≡◌, ◌+◌, ℕ, drop, map}
use Rattle.std.specs.List.{sum_by}
use Rattle.report_markup.specs.declared.report.Report.{Report}
use Rattle.snapshots.specs.Seen.{seen}
use Rattle.snapshots.specs.Converted.{left_by}
use Rattle.snapshots.specs.Gathered.{gathered, AllMovable}
use Rattle.snapshots.proofs.gather.gather.Given as goal

abbrev pub invariant-loop-part : goal.invariant-loop-part
invariant-loop-part l = record {
  counted : (measure : Report → ℕ)
      → sum_by measure (map seen l.reports.items) + sum_by measure (left_by l.edits (gathered (drop l.part-index l.parts)))
      ≡ sum_by measure (left_by l.edits (gathered l.parts));
  movable : AllMovable l.edits (drop l.part-index l.parts);
}
