use Rattle.std.proofs.Common.{◌-◌, ◌<◌, ◌≤◌, length, get_or}
use Rattle.outer_syntax.proofs.boundaries.Boundaries.number_from.Given as goal

abbrev pub invariant-loop-n : goal.invariant-loop-n
invariant-loop-n l = (l.n < length l.places) × (get_or l.places l.n 0 ≤ l.offset)

abbrev pub decreases-loop-n : goal.decreases-loop-n
decreases-loop-n l = length l.places - l.n
