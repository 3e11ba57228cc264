use Rattle.std.proofs.Common.{length}
use Rattle.shared_map.proofs.change.+part_behind.Given as goal

abbrev pub decreases-part_behind : goal.decreases-part_behind
decreases-part_behind g l = length l.pairs.now
