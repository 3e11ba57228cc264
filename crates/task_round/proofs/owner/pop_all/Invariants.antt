use Rattle.std.proofs.Common.{◌≡◌}
use Rattle.crossbeam_deque.specs.Handles.{SameWorker, worker_view}
use Rattle.task_round.specs.Workers.{HasDone}
use Rattle.task_round.proofs.owner.pop_all.Given as goal

-- the tasks that were taken so far are done
abbrev pub invariant-popping : goal.invariant-popping
invariant-popping g l =
    (goal.iterator-popping g).can_next l.iterator' × (goal.iterator-popping g).is_finite l.iterator'
    × SameWorker l.initial.owner l.owner × ((worker_view l.owner).parts ≡ (worker_view l.initial.owner).parts)
    × HasDone (g.T.Tasks.makes l.tasks) (g.T.Tasks.count l.tasks) (worker_view l.owner) l.done.items
