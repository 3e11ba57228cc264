-- The pass that is split is the next worker's.
use Rattle.std.proofs.Common.{◌≡◌, ◌+◌, [], ◌∷◌, ◌++◌, length, vec_len, sym, ap, subst, rules, arith}
use Rattle.hist_lock.specs.Passes.{view}
use Rattle.worker_loop.specs.Crew.{AreWorkers}
use Rattle.worker_loop.specs.Held.{held_in}
use Rattle.worker_loop.proofs.KnownWorkers.{workers_more}
use Rattle.test_calls.proofs.workers.add_pass.Goals as goal

pub returns-clause-workers : goal.returns-clause-workers
returns-clause-workers c =
    let lock = c.args.lock.now in let old = c.args.passes.now in let pass = c.split.result in let child = c.split.ensures.child in
    let added : c.push.new.self.items ≡ old.items ++ pass ∷ [] = search rules in
    let count : length old.items ≡ vec_len old = search rules in
    let made = c.requires.first.1 in
    let next : (view c.args.first.now).made + 1 ≡ 1 + length old.items = omega arith in
    subst (λ ps. AreWorkers (λ m. m.what) lock 1 ps) (sym added)
    (workers_more (λ m. m.what) lock 1 ((view c.args.first.now).made + 1) old.items pass next c.requires.workers
    (c.split.ensures.own.1, ap (λ v. v.caller) child, ap (λ v. held_in (λ m. m.what) v.mine) child))
