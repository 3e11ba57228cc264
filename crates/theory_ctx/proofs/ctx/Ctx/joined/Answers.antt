use Rattle.std.proofs.Common.{sym, subst}
use Rattle.std.proofs.lemmas.Result.{IfOk-at_ok}
use Rattle.theory_ctx.specs.NameSets.{CoversAll}
use Rattle.theory_ctx.proofs.Covered.{covers_united}
use Rattle.theory_ctx.proofs.ctx.Ctx.joined.Goals as goal

pub invariant_of-result : goal.invariant_of-result
invariant_of-result c =
    let free = c.in_ok-facts.free in
    subst (CoversAll free) (sym (IfOk-at_ok _ c.in_ok-facts.ensures.first c.union-facts.ensures.pairs))
    (covers_united c.self.inside.free c.other.inside.free free c.self.inside.facts c.other.inside.facts
    (IfOk-at_ok _ c.in_ok-facts.ensures.second c.union.ensures) c.self.invariant c.other.invariant)
