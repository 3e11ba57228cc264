use Rattle.std.proofs.Common.{rules, ◌+◌, ◌-◌, ◌≤◌, length, sym, ◌∙◌, ap, arith}
use Rattle.std.specs.Prelude.{drop}
use Rattle.theory_ctx.specs.Locals.{joined}
use Rattle.theory_ctx.proofs.LeftLocals.{step_in, step_behind}
use Rattle.theory_ctx.proofs.scope_locals.ScopeLocalsIterator.next.Goals as goal

pub returns-then-self-len-clause-steps : goal.returns-then-self-len-clause-steps
returns-then-self-len-clause-steps c =
    let here = c.behind.self-inside in
    sym c.behind.invariant
    ∙ step_in here.blocks.now here.block here.place c.in-Some.block.now c.in-Some-get.local.now (sym c.in-Some.ensures) (sym c.in-Some-get.ensures)

pub returns-then-self-len-clause-goes : goal.returns-then-self-len-clause-goes
returns-then-self-len-clause-goes c = let e = returns-then-self-len-clause-steps c in search (rules, e)

pub behind-preserved : goal.behind-preserved
behind-preserved c =
    let here = c.behind.self-inside in
    let past : length c.in-Some.block.now ≤ here.place = omega (arith, c.len-in-behind.ensures, c.if-self-len.false) in
    ap (λ n. drop (here.place - n) (joined (drop (here.block + 1) here.blocks.now))) c.len-in-behind-2.ensures
    ∙ (step_behind here.blocks.now here.block here.place c.in-Some.block.now (sym c.in-Some.ensures) past ∙ c.behind.invariant)
