use Rattle.std.proofs.Common.{sym, subst}
use Rattle.std.proofs.lemmas.Result.{IfOk-at_ok}
use Rattle.theory_ctx.specs.NameSets.{CoversAll}
use Rattle.theory_ctx.proofs.Covered.{covers_added}
use Rattle.theory_ctx.proofs.ctx.Ctx.set.Goals as goal

pub invariant_of-self-2 : goal.invariant_of-self-2
invariant_of-self-2 c =
    let free = c.in-Ok.free in
    subst (λ kept. CoversAll kept c.set.new.self) (sym c.replace.ensures.after)
    (subst (CoversAll free) (sym c.in_ok-set.ensures.ok)
    (covers_added c.self.inside.free free c.in-Ok.fact c.args.formula c.self.inside.facts
    (IfOk-at_ok _ c.in-Ok.ensures.second c.with_formula.ensures) c.self.invariant))
