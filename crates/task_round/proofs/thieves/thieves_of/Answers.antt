-- There are more parts than thieves.
use Rattle.std.proofs.Common.{◌<◌, sym, ap, subst, arith}
use Rattle.task_round.proofs.Moves.{forks}
use Rattle.task_round.proofs.thieves.thieves_of.Goals as goal

pub another-share-requires : goal.another-share-requires
another-share-requires c =
    let parts = ap (λ v. v.parts) c.thieves.invariant.1 in
    forks _ _ (subst (λ n. 1 < n) (sym parts) (search arith))
