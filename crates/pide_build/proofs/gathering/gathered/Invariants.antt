use Rattle.std.proofs.Common.{length}
use Rattle.pide_build.proofs.Gathered.{AreGathered}
use Rattle.pide_build.proofs.gathering.gathered.Given as goal

-- what is told of the nodes before the rest is gathered, and of the others it is still there
abbrev pub invariant-places : goal.invariant-places
invariant-places g l = AreGathered l.fn.told.items l.places l.rest l.all.items l.told.items

abbrev pub decreases-places : goal.decreases-places
decreases-places g l = length l.rest
