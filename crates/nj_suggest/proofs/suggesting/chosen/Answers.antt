use Rattle.std.proofs.Common.{rules, ◌≡◌, ◌≤◌, ◌<◌, [], length, ap, sym, subst, arith}
use Rattle.nj_suggest.proofs.EnoughLemmas.{AreChosen, none_chosen, next_chosen, all_chosen, enough_chosen}
use Rattle.nj_suggest.proofs.suggesting.chosen.Goals as goal

pub locals-init : goal.locals-init
locals-init c =
    let none : [] ≡ c.new-chosen.result = search rules in
    subst (λ l. AreChosen c.args.scope.now.locals c.locals-left.result l) none
    (subst (λ l. AreChosen c.args.scope.now.locals l []) (sym c.locals-left.ensures) (none_chosen c.args.scope.now.locals))

pub returns-in_default : goal.returns-in_default
returns-in_default c = all_chosen c.args.scope.now.locals c.locals.left c.locals.chosen c.locals.invariant c.in_default.ensures.steps.0

pub locals-smaller : goal.locals-smaller
locals-smaller c = omega (arith, ap length c.in-Some.ensures.steps)

pub locals-preserved : goal.locals-preserved
locals-preserved c =
    let few : length c.locals.chosen < 16 = subst (λ n. n < 16) c.len.ensures c.locals-test.true in
    next_chosen c.args.scope.now.locals c.locals.left c.locals.chosen c.locals.invariant
    c.in-Some.local.now c.next.new.self c.add_unhidden.new.chosen c.in-Some.ensures.steps few c.in_ok-add_unhidden.ensures

pub returns : goal.returns
returns c =
    let many : 16 ≤ length c.locals.chosen = omega (arith, c.len.ensures, c.locals-test.false) in
    enough_chosen c.args.scope.now.locals c.locals.left c.locals.chosen c.locals.invariant many
