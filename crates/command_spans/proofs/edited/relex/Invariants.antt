use Rattle.std.proofs.Common.{◌≡◌, ◌-◌, ◌≤◌, false, length}
use Rattle.std.specs.Prelude.{All}
use Rattle.outer_syntax.specs.Stages.{after_tokens}
use Rattle.outer_syntax.specs.declared.stage.Stage.TheVariants.{Start}
use Rattle.outer_syntax.specs.declared.token.Token.{Token}
use Rattle.outer_syntax.proofs.KnownLexing.{AreStaged}
use Rattle.command_spans.specs.CutTexts.{boundaries}
use Rattle.command_spans.specs.Reparsing.{moved, is_meeting}
use Rattle.command_spans.specs.Keeping.{ArePassed}
use Rattle.command_spans.proofs.edited.relex.Given as goal

abbrev pub invariant-lexed : goal.invariant-lexed
invariant-lexed l = record {
  within : l.place ≤ length l.text;
  staged : AreStaged l.aliases l.text Start 0 l.place l.tokens.items;
  stage : l.stage ≡ after_tokens l.text Start l.tokens.items;
  passed : ArePassed (moved l.change.new_end l.change.old_end l.place) l.kept l.next;
  none : All (λ (t : Token). is_meeting l.change.old_end l.change.new_end (boundaries (l.was.len) l.kept) t.range.start ≡ false) l.tokens.items;
}

abbrev pub decreases-lexed : goal.decreases-lexed
decreases-lexed l = length l.text - l.place
