use Rattle.std.proofs.Common.{◌∙◌, ap}
use Rattle.theory_ctx.specs.Facts.{fact_of}
use Rattle.theory_ctx.proofs.Named.{fact_of_first}
use Rattle.theory_ctx.proofs.ctx.Ctx.fact.Goals as goal

pub returns : goal.returns
returns c =
    c.first_in.ensures ∙ fact_of_first c.args.theory.now c.args.name.now c.self.inside.facts
    ∙ ap (fact_of c.args.theory.now c.args.name.now) c.self.view_is
