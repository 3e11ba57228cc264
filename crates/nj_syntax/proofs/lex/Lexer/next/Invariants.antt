use Rattle.std.proofs.Common.{◌≡◌, ◌≤◌, ◌-◌, length}
use Rattle.nj_syntax.specs.Tokens.{cut_from}
use Rattle.nj_syntax.proofs.lex.Lexer.next.Given as goal

abbrev pub invariant-blanks : goal.invariant-blanks
invariant-blanks l = record {
  from : l.fn.from ≤ l.at;
  within : l.at ≤ length l.text;
  reads : cut_from l.fn.from l.text ≡ cut_from l.at l.text;
}

abbrev pub decreases-blanks : goal.decreases-blanks
decreases-blanks l = length l.text - l.at
