-- The pass that is popped is the last one.
use Rattle.std.proofs.Common.{◌≡◌, [], ◌∷◌, ◌++◌, IfSome, length, vec_len, subst, rules}
use Rattle.worker_loop.specs.Crew.{AreWorkers, IsWorker}
use Rattle.worker_loop.proofs.KnownWorkers.{workers_popped}
use Rattle.worker_loop.proofs.crew.last_worker.Goals as goal

pub returns-clause-worker : goal.returns-clause-worker
returns-clause-worker g c =
    let old = c.args.passes.now.items in let new = c.pop.new.self.items in
    let taken : IfSome c.pop.result (λ p. old ≡ new ++ p ∷ []) = search rules in
    let says = g.W.Work.says in let lock = c.args.lock.now in
    let count : length old ≡ vec_len c.args.passes.now = search rules in
    subst (λ n. IfSome c.pop.result (λ p. IsWorker says lock n p × AreWorkers says lock 1 new)) count
    (workers_popped says lock c.pop.result old new c.requires.workers taken)
