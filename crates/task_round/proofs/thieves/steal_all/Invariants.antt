use Rattle.std.proofs.Common.{◌≡◌}
use Rattle.crossbeam_deque.specs.Handles.{IsPassOf, stealer_deque, view}
use Rattle.task_round.specs.Workers.{HasDone}
use Rattle.task_round.proofs.thieves.steal_all.Given as goal

-- the tasks that were taken so far are done
abbrev pub invariant-stealing : goal.invariant-stealing
invariant-stealing g l =
    (goal.iterator-stealing g).can_next l.iterator' × (goal.iterator-stealing g).is_finite l.iterator'
    × IsPassOf (stealer_deque l.front) l.share × ((view l.share).parts ≡ 1)
    × HasDone (g.T.Tasks.makes l.tasks) (g.T.Tasks.count l.tasks) (view l.share) l.done.items
