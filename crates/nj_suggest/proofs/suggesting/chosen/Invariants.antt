use Rattle.std.proofs.Common.{length}
use Rattle.nj_suggest.proofs.EnoughLemmas.{AreChosen}
use Rattle.nj_suggest.proofs.suggesting.chosen.Given as goal

abbrev pub invariant-locals : goal.invariant-locals
invariant-locals l = AreChosen l.scope.locals l.left l.chosen

abbrev pub decreases-locals : goal.decreases-locals
decreases-locals l = length l.left
