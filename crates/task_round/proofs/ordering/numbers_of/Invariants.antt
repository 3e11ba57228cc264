use Rattle.std.proofs.Common.{◌≡◌, take}
use Rattle.task_round.specs.Workers.{numbers}
use Rattle.task_round.proofs.ordering.numbers_of.Given as goal

abbrev pub invariant-tasks : goal.invariant-tasks
invariant-tasks g l = l.all.items ≡ numbers (take l.one-index l.done)
