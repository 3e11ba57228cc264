use Rattle.std.proofs.Common.{◌≡◌, take}
use Rattle.outer_syntax.specs.Stages.{after_tokens}
use Rattle.outer_syntax.specs.declared.stage.Stage.TheVariants.{Start}
use Rattle.command_spans.proofs.edited.read_before.Given as goal

abbrev pub invariant-loop-read : goal.invariant-loop-read
invariant-loop-read l = l.stage ≡ after_tokens l.text Start (take l.read l.tokens)
