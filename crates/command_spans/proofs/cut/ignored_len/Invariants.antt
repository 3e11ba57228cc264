use Rattle.std.proofs.Common.{length, ◌≡◌, ◌-◌, ◌<◌, ◌≤◌, false}
use Rattle.std.specs.List.{AllWithin}
use Rattle.outer_syntax.specs.declared.token.Token.{Token}
use Rattle.command_spans.specs.Spans.{proper_token}
use Rattle.command_spans.proofs.cut.ignored_len.Given as goal

abbrev pub invariant-loop-n : goal.invariant-loop-n
invariant-loop-n l =
    (0 < l.n) × (l.n ≤ length l.tokens) × AllWithin (λ (t : Token). proper_token t ≡ false) l.tokens 0 l.n

abbrev pub decreases-loop-n : goal.decreases-loop-n
decreases-loop-n l = length l.tokens - l.n
