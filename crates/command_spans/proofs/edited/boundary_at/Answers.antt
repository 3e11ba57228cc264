use Rattle.std.proofs.Common.{ap, sym, ◌∙◌}
use Rattle.std.specs.Option.{option_copied}
use Rattle.command_spans.proofs.ReadOn.{boundary-got, boundary-none}
use Rattle.command_spans.proofs.edited.boundary_at.Goals as goal

pub returns-in-Some : goal.returns-in-Some
returns-in-Some c = sym (boundary-got c.args.len c.args.tokens.now c.args.number c.in-Some.token.now (sym c.at.ensures ∙ ap option_copied c.in-Some.is))

pub returns-in-None : goal.returns-in-None
returns-in-None c = sym (boundary-none c.args.len c.args.tokens.now c.args.number (sym c.at.ensures ∙ ap option_copied c.in-None.is))
