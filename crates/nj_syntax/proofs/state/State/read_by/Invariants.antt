use Rattle.std.proofs.Common.{◌≡◌, ◌≤◌, ◌-◌, length}
use Rattle.nj_syntax.specs.Tokens.{cut_of, cut_from}
use Rattle.nj_syntax.specs.Answer.{read_from}
use Rattle.nj_syntax.specs.Seen.{seen}
use Rattle.nj_syntax.proofs.state.State.read_by.Given as goal

abbrev pub invariant-tokens : goal.invariant-tokens
invariant-tokens l = record {
  within : l.at ≤ length l.text;
  kept : read_from (seen l.fn.self) (cut_of l.text) ≡ read_from (seen l.state) (cut_from l.at l.text);
}

abbrev pub decreases-tokens : goal.decreases-tokens
decreases-tokens l = length l.text - l.at
