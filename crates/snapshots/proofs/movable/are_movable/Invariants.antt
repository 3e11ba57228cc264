-- All can be moved where those of the rest can.
use Rattle.std.proofs.Common.{◌↔◌, drop}
use Rattle.snapshots.specs.Gathered.{AllMovable}
use Rattle.snapshots.proofs.movable.are_movable.Given as goal

abbrev pub invariant-loop-part : goal.invariant-loop-part
invariant-loop-part l = AllMovable l.edits (drop l.part-index l.parts) ↔ AllMovable l.edits l.parts
