-- A steal keeps the rule; one part tells nothing of the others.
use Rattle.std.proofs.Common.{◌<◌, sym, subst, arith}
use Rattle.task_round.proofs.Moves.{takes, thief_finds}
use Rattle.task_round.proofs.thieves.steal_all.Goals as goal

pub steal_as-requires-clause-takes : goal.steal_as-requires-clause-takes
steal_as-requires-clause-takes g c = takes _ _ (subst (λ n. 0 < n) (sym c.stealing.invariant.3) (omega arith))

pub steal_as-requires-clause-empty : goal.steal_as-requires-clause-empty
steal_as-requires-clause-empty g c = thief_finds _ _ _ c.stealing.invariant.3
