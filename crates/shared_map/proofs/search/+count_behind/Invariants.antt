use Rattle.std.proofs.Common.{length}
use Rattle.shared_map.proofs.search.+count_behind.Given as goal

abbrev pub decreases-count_behind : goal.decreases-count_behind
decreases-count_behind g l = length l.pairs.now
