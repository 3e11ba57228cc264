use Rattle.std.proofs.Common.{◌≡◌, ◌++◌, length, map, filter}
use Rattle.buffer_rules.specs.Cuts.{is_command}
use Rattle.editor_buffer.specs.Commands.{ranges_of}
use Rattle.editor_buffer.proofs.command_places.command_ranges.Given as goal

abbrev pub invariant-spans : goal.invariant-spans
invariant-spans l =
    l.ranges.items ++ map (λ s. s.range) (filter (λ s. is_command s.kind) l.rest)
    ≡ ranges_of l.spans.spans

abbrev pub decreases-spans : goal.decreases-spans
decreases-spans l = length l.rest
