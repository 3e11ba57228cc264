use Rattle.std.proofs.Common.{length}
use Rattle.shared_map.proofs.change.+part_before.Given as goal

abbrev pub decreases-part_before : goal.decreases-part_before
decreases-part_before g l = length l.pairs.now
