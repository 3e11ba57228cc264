-- What the last worker brings back follows the others'.
use Rattle.std.proofs.Common.{[], ◌∷◌, ◌++◌, sym, subst}
use Rattle.worker_loop.specs.Crew.{HaveWorked}
use Rattle.worker_loop.proofs.KnownWorkers.{worked_more}
use Rattle.worker_loop.proofs.crew.+fn-work_all-join+arg2+work_all.Goals as goal

pub returns-clause-worked : goal.returns-clause-worked
returns-clause-worked g t c =
    let says = g.W.Work.says in let lock = c.args.lock.now in
    let before = c.last_worker.new.passes.items in let pass = c.in-Some.pass in
    let others = c.join-shifts.result.0.items in let last = c.join-shifts.result.1 in
    let all = worked_more says lock before others pass last c.join-shifts.ensures.first.0 c.join-shifts.ensures.second in
    subst (λ ps. HaveWorked says lock ps c.put.new.items.items) (sym c.in-Some.ensures.some)
    (subst (λ ss. HaveWorked says lock (before ++ pass ∷ []) ss) (sym c.put.ensures.put) all)
