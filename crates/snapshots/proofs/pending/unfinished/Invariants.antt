-- The executions so far, and those of the rest.
use Rattle.std.proofs.Common.{◌≡◌, ◌++◌, drop}
use Rattle.snapshots.specs.Pending.{unfinished}
use Rattle.snapshots.proofs.pending.unfinished.Given as goal

abbrev pub invariant-loop-part : goal.invariant-loop-part
invariant-loop-part l = l.execs.items ++ unfinished (drop l.part-index l.parts) ≡ unfinished l.parts
