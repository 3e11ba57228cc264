use Rattle.core_tables.specs.Waiters.{count_of}
use Rattle.core_tables.proofs.Telling.{IsDoing}
use Rattle.core_tables.proofs.queue.TaskQueue.done.Given as goal

abbrev pub invariant-loop-waiter : goal.invariant-loop-waiter
invariant-loop-waiter l = IsDoing l.number l.initial.self-inside l.self-inside

abbrev pub decreases-loop-waiter : goal.decreases-loop-waiter
decreases-loop-waiter l = count_of l.self-inside.waiters l.number
