use Rattle.std.proofs.Common.{◌-◌, ◌≤◌, length}
use Rattle.outer_syntax.specs.Words.{is_in_force}
use Rattle.outer_syntax.specs.Tokens.{AreTokensBetween}
use Rattle.outer_syntax.proofs.lexer.lex_under.Given as goal

abbrev pub invariant-loop-token : goal.invariant-loop-token
invariant-loop-token l = (l.place ≤ length l.text) × AreTokensBetween (λ _. is_in_force l.names) l.text 0 l.place l.tokens.items

abbrev pub decreases-loop-token : goal.decreases-loop-token
decreases-loop-token l = length l.text - l.place
