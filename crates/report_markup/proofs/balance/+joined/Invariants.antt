use Rattle.std.proofs.Common.{◌+◌, length}
use Rattle.report_markup.proofs.balance.+joined.Given as goal

abbrev pub decreases-joined : goal.decreases-joined
decreases-joined l = length l.left.now + length l.right.now
