use Rattle.std.proofs.Common.{◌≡◌, length}
use Rattle.std.specs.List.{list_any}
use Rattle.buffer_rules.specs.Sheets.{is_outside}
use Rattle.editor_buffer.proofs.perspective.has_outside.Given as goal

abbrev pub invariant-each : goal.invariant-each
invariant-each l = list_any (is_outside l.len) l.rest ≡ list_any (is_outside l.len) l.fn.ranges

abbrev pub decreases-each : goal.decreases-each
decreases-each l = length l.rest
