use Rattle.std.proofs.Common.{◌≡◌, length}
use Rattle.test_editor.specs.Tally.{summed}
use Rattle.test_editor.proofs.tally.summed.Given as goal

abbrev pub invariant-scalars : goal.invariant-scalars
invariant-scalars l = summed l.sum l.rest ≡ summed l.fn.number l.fn.scalars

abbrev pub decreases-scalars : goal.decreases-scalars
decreases-scalars l = length l.rest
