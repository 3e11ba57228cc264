use Rattle.std.proofs.Common.{◌≡◌, ◌+◌, subst, arith, length}
use Rattle.update_plans.specs.Begun.{IsBegun}
use Rattle.update_plans.proofs.BegunAre.{none_begun, one_begun, all_begun, left_length, pop_length}
use Rattle.update_plans.proofs.beginning.new_executions.Goals as goal

pub homes-init : goal.homes-init
homes-init g c = none_begun c.args.execs.now.rows c.args.next c.args.homes c.new-all.result.items c.new-all.ensures.items

pub numbered-exec-requires : goal.numbered-exec-requires
numbered-exec-requires g c =
    let less = pop_length c.homes.rest c.pop.new.self c.in-Some.home c.in-Some.ensures in
    let within = left_length c.args.execs.now.rows c.args.next c.args.homes c.homes.rest c.homes.all.items c.homes.invariant in
    omega (arith, less, within, c.requires.within, c.requires.first, c.len.ensures)

pub homes-smaller : goal.homes-smaller
homes-smaller g c =
    let less = pop_length c.homes.rest c.pop.new.self c.in-Some.home c.in-Some.ensures in omega (arith, less)

pub homes-preserved : goal.homes-preserved
homes-preserved g c =
    let number : c.numbered-exec.result ≡ c.args.next + length c.pop.new.self = omega (arith, c.numbered-exec.ensures, c.len.ensures) in
    one_begun c.args.execs.now.rows c.args.next c.args.homes c.homes.rest c.pop.new.self c.in-Some.home c.homes.all.items _ c.in_ok-new_execution.field-0
    c.in-Some.ensures c.in_ok-push.ensures.items
    (subst (λ n. IsBegun c.args.execs.now.rows n c.in-Some.home c.in_ok-new_execution.field-0) number c.in_ok-new_execution.ensures) c.homes.invariant

pub returns : goal.returns
returns g c = all_begun c.args.execs.now.rows c.args.next c.args.homes c.homes.rest c.homes.all.items c.in_default.ensures.0 c.homes.invariant
