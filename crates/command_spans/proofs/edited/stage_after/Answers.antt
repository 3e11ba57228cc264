use Rattle.std.proofs.Common.{sym, ap, ◌∙◌, arith, length}
use Rattle.std.proofs.lemmas.List.{take_all}
use Rattle.outer_syntax.specs.Stages.{after_tokens}
use Rattle.outer_syntax.specs.declared.stage.Stage.TheVariants.{Start}
use Rattle.command_spans.proofs.edited.stage_after.Goals as goal

pub returns : goal.returns
returns c = sym (c.read_before.ensures.read (length c.args.tokens.now) c.read_before.ensures.within) ∙ ap (after_tokens c.args.text.now Start) (take_all (length c.args.tokens.now) c.args.tokens.now (omega arith))
