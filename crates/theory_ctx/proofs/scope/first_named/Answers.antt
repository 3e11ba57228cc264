use Rattle.std.proofs.Common.{rules, ◌≡◌, ◌∷◌, Some, None, sym, ◌∙◌, ap}
use Rattle.theory_ctx.specs.Locals.{first_named, joined}
use Rattle.theory_ctx.proofs.BlockLocals.{first_in, first_behind}
use Rattle.theory_ctx.proofs.scope.first_named.Goals as goal

pub returns-in-Some-first_named : goal.returns-in-Some-first_named
returns-in-Some-first_named c =
    let split : c.loop-locals.locals-iterator ≡ c.in-Some.locals.now ∷ c.next.new.self = search rules in
    let is : first_named c.args.name.now c.in-Some.locals.now ≡ Some c.in-Some-first_named.local.now = search rules in
    first_in c.args.name.now c.in-Some.locals.now c.next.new.self c.in-Some-first_named.local.now is
    ∙ ap (λ l. first_named c.args.name.now (joined l)) (sym split) ∙ c.loop-locals.invariant.2

pub loop-locals-preserved : goal.loop-locals-preserved
loop-locals-preserved c =
    let split : c.loop-locals.locals-iterator ≡ c.in-Some.locals.now ∷ c.next.new.self = search rules in
    let none : first_named c.args.name.now c.in-Some.locals.now ≡ None = search rules in
    let on =
    first_behind c.args.name.now c.in-Some.locals.now c.next.new.self none
    ∙ ap (λ l. first_named c.args.name.now (joined l)) (sym split) ∙ c.loop-locals.invariant.2 in
    (tt, tt, on)
