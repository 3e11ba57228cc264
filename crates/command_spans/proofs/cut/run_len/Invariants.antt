use Rattle.std.proofs.Common.{length, ◌≡◌, ◌-◌, ◌<◌, ◌≤◌, true, false}
use Rattle.std.specs.List.{AllWithin}
use Rattle.outer_syntax.specs.declared.token.Token.{Token}
use Rattle.command_spans.specs.Spans.{Is, proper_token, command_token}
use Rattle.command_spans.proofs.cut.run_len.Given as goal

abbrev pub invariant-loop-seen : goal.invariant-loop-seen
invariant-loop-seen l = record {
  some : 0 < l.n;
  upto : l.n ≤ l.seen;
  within : l.seen ≤ length l.tokens;
  no_other : AllWithin (λ (t : Token). command_token t ≡ false) l.tokens 1 l.seen;
  ends : Is proper_token true l.tokens (l.n - 1);
  gap : AllWithin (λ (t : Token). proper_token t ≡ false) l.tokens l.n l.seen;
}

abbrev pub decreases-loop-seen : goal.decreases-loop-seen
decreases-loop-seen l = length l.tokens - l.seen
