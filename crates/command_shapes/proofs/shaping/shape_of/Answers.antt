use Rattle.std.proofs.Common.{◌≡◌, IfOk, Option, sym, subst, ◌∙◌}
use Rattle.isar_rules.specs.declared.shape.Shape.{Shape}
use Rattle.command_shapes.proofs.ShapeLemmas.{shape_from}
use Rattle.command_shapes.proofs.shaping.shape_of.Goals as goal

pub returns-in-Some : goal.returns-in-Some
returns-in-Some c =
    subst (λ (o : Option Shape). IfOk c.shape_by.result (λ s. s ≡ o))
    (shape_from c.args.aliases.now c.args.source.now c.args.tokens.now _ c.in-Some.verb c.in-len1-up.len_at_least (sym c.in-Some.is ∙ c.verb_in.ensures))
    c.shape_by.ensures
