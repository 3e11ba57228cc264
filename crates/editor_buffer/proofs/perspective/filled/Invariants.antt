use Rattle.std.proofs.Common.{◌≡◌, ◌++◌, length, filter, not}
use Rattle.buffer_rules.specs.Sheets.{is_empty}
use Rattle.editor_buffer.proofs.perspective.filled.Given as goal

abbrev pub invariant-each : goal.invariant-each
invariant-each l = l.kept ++ filter (λ r. not (is_empty r)) l.rest ≡ filter (λ r. not (is_empty r)) l.fn.ranges

abbrev pub decreases-each : goal.decreases-each
decreases-each l = length l.rest
