-- The thieves steal from the owner's deque.
use Rattle.std.proofs.Common.{IfOk, subst}
use Rattle.std.specs.List.{All}
use Rattle.std.proofs.lemmas.Result.{IfOk-at_ok}
use Rattle.crossbeam_deque.specs.Handles.{stealer_deque, worker_deque}
use Rattle.task_round.specs.Workers.{IsHaul}
use Rattle.task_round.proofs.running.side_by_side.Goals as goal

pub returns-clause-hauls : goal.returns-clause-hauls
returns-clause-hauls g c =
    let makes = g.T.Tasks.makes c.args.tasks.now in let count = g.T.Tasks.count c.args.tasks.now in
    let front = stealer_deque c.in_ok-front.front in let hauls = c.in_ok-popped.hauls.items in
    let stolen =
    IfOk-at_ok (λ all. All (λ one. IfOk one (IsHaul makes front count)) all.items)
    c.in_ok-popped.ensures.second c.join-hauls.ensures.first.1 in
    subst (λ deque. All (λ one. IfOk one (IsHaul makes deque count)) hauls)
    {x = front} {y = worker_deque c.args.owner} c.in_ok-front.ensures.0 stolen
