use Rattle.std.proofs.Common.{◌+◌, length}
use Rattle.shared_map.proofs.balance.+joined.Given as goal

abbrev pub decreases-joined : goal.decreases-joined
decreases-joined g l = length l.left.now + length l.right.now
