use Rattle.std.proofs.Common.{◌≡◌, length}
use Rattle.std.specs.List.{list_any}
use Rattle.buffer_rules.specs.Preparing.{is_long}
use Rattle.editor_buffer.specs.Standing.{sheets_of}
use Rattle.editor_buffer.proofs.limits.has_long_sheet.Given as goal

abbrev pub invariant-each : goal.invariant-each
invariant-each l = list_any (λ pair. is_long pair.1.text) (sheets_of l.rest) ≡ list_any (λ pair. is_long pair.1.text) (sheets_of l.opened)

abbrev pub decreases-each : goal.decreases-each
decreases-each l = length l.rest
