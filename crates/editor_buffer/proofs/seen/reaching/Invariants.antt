use Rattle.std.proofs.Common.{◌≡◌, ◌++◌, length}
use Rattle.editor_buffer.specs.Spread.{spread}
use Rattle.editor_buffer.proofs.seen.reaching.Given as goal

abbrev pub invariant-each : goal.invariant-each
invariant-each l = l.all.items ++ spread l.reach l.rest ≡ spread 0 l.fn.ranges

abbrev pub decreases-each : goal.decreases-each
decreases-each l = length l.rest
