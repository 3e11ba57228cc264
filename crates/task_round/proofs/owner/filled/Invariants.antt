use Rattle.std.proofs.Common.{◌≡◌, ◌≤◌, []}
use Rattle.crossbeam_deque.specs.Handles.{worker_flavor, worker_view, worker_index, worker_capacity}
use Rattle.task_round.specs.Sharing.{all_parts, hand}
use Rattle.task_round.proofs.owner.filled.Given as goal

-- the tasks so far were put, and there is room for the others
abbrev pub invariant-tasks : goal.invariant-tasks
invariant-tasks l =
    (worker_flavor l.owner ≡ 0) × (worker_view l.owner ≡ hand all_parts l.task []) × (worker_index l.owner ≡ l.task)
    × (l.count ≤ worker_capacity l.owner)
