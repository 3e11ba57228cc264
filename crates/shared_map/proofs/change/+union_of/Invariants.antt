use Rattle.std.proofs.Common.{length}
use Rattle.shared_map.proofs.change.+union_of.Given as goal

abbrev pub decreases-union_of : goal.decreases-union_of
decreases-union_of g l = length l.pairs.now
