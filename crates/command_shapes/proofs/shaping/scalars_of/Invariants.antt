use Rattle.std.proofs.Common.{◌≡◌, ◌++◌, length}
use Rattle.command_shapes.proofs.shaping.scalars_of.Given as goal

abbrev pub invariant-bytes : goal.invariant-bytes
invariant-bytes l = l.scalars ++ l.rest ≡ l.fn.text

abbrev pub decreases-bytes : goal.decreases-bytes
decreases-bytes l = length l.rest
