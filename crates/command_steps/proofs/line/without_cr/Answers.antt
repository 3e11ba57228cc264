use Rattle.std.proofs.Common.{sym, ◌∙◌}
use Rattle.command_steps.proofs.LineLemmas.{return_off, no_return}
use Rattle.command_steps.proofs.line.without_cr.Goals as goal

pub returns-in-len1-up : goal.returns-in-len1-up
returns-in-len1-up c =
    return_off c.args.line.now c.last-item.result c.in-len1-up.len_at_least (sym c.last-item.is ∙ c.if-last-eq13.true)

pub returns-in_default-2 : goal.returns-in_default-2
returns-in_default-2 c =
    no_return c.args.line.now c.last-item.result c.in-len1-up.len_at_least (λ is. c.if-last-eq13.false (c.last-item.is ∙ is))
