use Rattle.std.proofs.Common.{length}
use Rattle.shared_map.proofs.search.+count_before.Given as goal

abbrev pub decreases-count_before : goal.decreases-count_before
decreases-count_before g l = length l.pairs.now
