use Rattle.std.proofs.Common.{length}
use Rattle.shared_map.proofs.balance.+appended.Given as goal

abbrev pub decreases-appended : goal.decreases-appended
decreases-appended g l = length l.right.now
