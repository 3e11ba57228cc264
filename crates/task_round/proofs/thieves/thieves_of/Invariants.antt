use Rattle.std.proofs.Common.{◌≡◌, ◌-◌, [], vec_len}
use Rattle.std.specs.List.{All}
use Rattle.crossbeam_deque.specs.Handles.{SameWorker, worker_deque, worker_view}
use Rattle.task_round.specs.Sharing.{all_parts, hand}
use Rattle.task_round.specs.Workers.{IsThief}
use Rattle.task_round.proofs.thieves.thieves_of.Given as goal

-- each thief so far was given a part
abbrev pub invariant-thieves : goal.invariant-thieves
invariant-thieves l =
    SameWorker l.initial.owner l.owner
    × (worker_view l.owner ≡ hand (all_parts - l.before) (worker_view l.initial.owner).count [])
    × (vec_len l.thieves ≡ l.before)
    × All (IsThief (worker_deque l.initial.owner) (worker_view l.initial.owner).count) l.thieves.items
