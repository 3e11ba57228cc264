use Rattle.std.proofs.Common.{◌≡◌, length}
use Rattle.std.specs.List.{list_any}
use Rattle.buffer_rules.specs.Preparing.{is_long}
use Rattle.editor_buffer.proofs.limits.has_long_blob.Given as goal

abbrev pub invariant-each : goal.invariant-each
invariant-each l = list_any (λ pair. is_long pair.1) l.rest ≡ list_any (λ pair. is_long pair.1) l.blobs

abbrev pub decreases-each : goal.decreases-each
decreases-each l = length l.rest
