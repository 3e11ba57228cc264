use Rattle.std.proofs.Common.{length}
use Rattle.shared_map.proofs.change.+with_pair.Given as goal

abbrev pub decreases-with_pair : goal.decreases-with_pair
decreases-with_pair g l = length l.pairs.now
