use Rattle.std.proofs.Common.{◌≡◌, ◌++◌, length, filter, nat_lt}
use Rattle.editor_buffer.proofs.seen.filled.Given as goal

abbrev pub invariant-each : goal.invariant-each
invariant-each l = l.kept.items ++ filter (λ r. nat_lt r.start r.stop) l.rest ≡ filter (λ r. nat_lt r.start r.stop) l.fn.ranges

abbrev pub decreases-each : goal.decreases-each
decreases-each l = length l.rest
