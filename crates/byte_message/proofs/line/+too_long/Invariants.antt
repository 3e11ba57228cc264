use Rattle.std.proofs.Common.{length}
use Rattle.byte_message.proofs.line.+too_long.Given as goal

abbrev pub decreases-too_long : goal.decreases-too_long
decreases-too_long l = length l.lengths.now
