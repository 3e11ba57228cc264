use Rattle.std.proofs.Common.{length, ◌-◌, ◌≤◌, List, ◌++◌, drop}
use Rattle.command_spans.specs.Spans.{AreSpansOf}
use Rattle.command_spans.specs.declared.span.Span.{Span}
use Rattle.command_spans.proofs.cut.spans_of.Given as goal

abbrev pub invariant-loop-at : goal.invariant-loop-at
invariant-loop-at l =
    (l.at ≤ length l.tokens) × ((more : List Span) → AreSpansOf (drop l.at l.tokens) more → AreSpansOf l.tokens (l.spans.items ++ more))

abbrev pub decreases-loop-at : goal.decreases-loop-at
decreases-loop-at l = length l.tokens - l.at
