-- Each task is put behind those before it, while the owner has all parts.
use Rattle.std.proofs.Common.{sym, ap}
use Rattle.task_round.proofs.Moves.{begins, puts}
use Rattle.task_round.proofs.owner.filled.Goals as goal

pub fifo_as-requires : goal.fifo_as-requires
fifo_as-requires c = begins

pub push_as-requires-clause-pushes : goal.push_as-requires-clause-pushes
push_as-requires-clause-pushes c =
    let view = c.tasks.invariant.1 in
    puts _ _ _ (ap (λ v. v.parts) view) (sym (ap (λ v. v.count) view))
