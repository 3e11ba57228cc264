use Rattle.std.proofs.Common.{◌≡◌, ◌++◌, length, map}
use Rattle.buffer_rules.specs.Cuts.{source}
use Rattle.editor_buffer.proofs.source.sources.Given as goal

abbrev pub invariant-each : goal.invariant-each
invariant-each l = l.all.items ++ map (source l.text) l.rest ≡ map (source l.text) l.fn.ranges

abbrev pub decreases-each : goal.decreases-each
decreases-each l = length l.rest
