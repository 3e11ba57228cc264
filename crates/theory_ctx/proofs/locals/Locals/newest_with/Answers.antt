use Rattle.std.proofs.Common.{◌∷◌, refl, subst}
use Rattle.std.proofs.lemmas.Result.{IfOk-at_ok}
use Rattle.theory_ctx.specs.declared.local.Local.{Local}
use Rattle.theory_ctx.specs.Locals.{AreFirst}
use Rattle.theory_ctx.proofs.BlockLocals.{are_first}
use Rattle.theory_ctx.proofs.locals.Locals.newest_with.Goals as goal

pub returns : goal.returns
returns c =
    let local : Local = record { name = c.args.name.now; formula = c.args.formula.now } in
    subst (λ all. AreFirst c.set.new.self (local ∷ all)) c.self.view_is
    (are_first c.self.inside.newest c.in_ok-newest.newest c.set.new.self c.self.inside.all (local ∷ c.self.inside.all)
    c.in_ok-newest.key c.in_ok-newest.local local local
    c.in_ok-set.ensures.found (IfOk-at_ok _ c.in_ok-newest.ensures.second c.copied.ensures)
    (IfOk-at_ok _ c.in_ok-newest.ensures.third c.local.ensures)
    (IfOk-at_ok _ c.in_ok-newest.ensures.first c.copy.ensures) refl refl
    c.self.invariant)
