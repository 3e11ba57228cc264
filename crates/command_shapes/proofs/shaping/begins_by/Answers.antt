-- What begins `by` has its shape.
use Rattle.std.proofs.Common.{Some, sym, ap, ◌∙◌}
use Rattle.command_shapes.specs.Commands.{is_by}
use Rattle.command_shapes.proofs.ShapeLemmas.{by-alone}
use Rattle.command_shapes.proofs.shaping.begins_by.Goals as goal

pub returns-in-Some-By-clause-alone : goal.returns-in-Some-By-clause-alone
returns-in-Some-By-clause-alone c _ more =
    by-alone c.args.aliases.now c.args.source.now c.args.first more
    (ap is_by (sym c.verb_in.ensures ∙ c.in-Some-By.is ∙ ap Some c.in-Some-By.field-0-is))
