-- All can be moved where the rest can.
use Rattle.std.proofs.Common.{◌↔◌, drop}
use Rattle.std.specs.List.{AllByRecursion}
use Rattle.snapshots.specs.Gathered.{Movable}
use Rattle.snapshots.proofs.movable.all_movable.Given as goal

abbrev pub invariant-loop-report : goal.invariant-loop-report
invariant-loop-report l = AllByRecursion (Movable l.edits l.place) (drop l.report-index l.reports) ↔ AllByRecursion (Movable l.edits l.place) l.reports
