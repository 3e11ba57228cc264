use Rattle.std.proofs.Common.{◌≡◌, ◌-◌, ◌≤◌, length}
use Rattle.outer_syntax.specs.Stages.{after_tokens}
use Rattle.outer_syntax.specs.declared.stage.Stage.TheVariants.{Start}
use Rattle.outer_syntax.proofs.KnownLexing.{AreStaged}
use Rattle.outer_syntax.proofs.lexer.lex.Given as goal

abbrev pub invariant-loop-token : goal.invariant-loop-token
invariant-loop-token l = record {
  within : l.place ≤ length l.text;
  staged : AreStaged l.aliases l.text Start 0 l.place l.tokens.items;
  stage : l.stage ≡ after_tokens l.text Start l.tokens.items;
}

abbrev pub decreases-loop-token : goal.decreases-loop-token
decreases-loop-token l = length l.text - l.place
