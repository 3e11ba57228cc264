use Rattle.std.proofs.Common.{◌≡◌, ◌+◌, ◌<◌, vec_len, IfOk}
use Rattle.std.specs.List.{All}
use Rattle.crossbeam_deque.specs.Handles.{SameWorker, worker_deque, worker_view}
use Rattle.task_round.specs.Sharing.{all_parts}
use Rattle.task_round.specs.Workers.{HasDone, IsHaul}
use Rattle.task_round.proofs.gathering.gather.Given as goal

-- the parts that are still out are those of the thieves that are left
abbrev pub invariant-gathering : goal.invariant-gathering
invariant-gathering g l =
    SameWorker l.initial.owner l.owner × (0 < (worker_view l.owner).parts)
    × ((worker_view l.owner).parts + vec_len l.hauls ≡ all_parts)
    × HasDone (g.T.Tasks.makes l.tasks) (g.T.Tasks.count l.tasks) (worker_view l.owner) l.done.items
    × All (λ one. IfOk one (λ haul. IsHaul (g.T.Tasks.makes l.tasks) (worker_deque l.initial.owner) (g.T.Tasks.count l.tasks) haul)) l.hauls.items

abbrev pub decreases-gathering : goal.decreases-gathering
decreases-gathering g l = vec_len l.hauls
