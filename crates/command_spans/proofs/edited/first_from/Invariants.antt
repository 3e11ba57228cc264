use Rattle.std.proofs.Common.{length, ◌-◌}
use Rattle.command_spans.specs.Keeping.{ArePassed}
use Rattle.command_spans.proofs.edited.first_from.Given as goal

abbrev pub invariant-loop-number : goal.invariant-loop-number
invariant-loop-number l = ArePassed l.place l.tokens l.number

abbrev pub decreases-loop-number : goal.decreases-loop-number
decreases-loop-number l = length l.tokens - l.number
