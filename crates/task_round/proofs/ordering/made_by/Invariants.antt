use Rattle.std.proofs.Common.{◌≡◌, map}
use Rattle.task_round.proofs.ordering.made_by.Given as goal

abbrev pub invariant-tasks : goal.invariant-tasks
invariant-tasks g l = (goal.iterator-tasks g).can_next l.one-iterator × (goal.iterator-tasks g).is_finite l.one-iterator
    × (l.all.items ≡ map (λ d. d.made) l.yielded)
