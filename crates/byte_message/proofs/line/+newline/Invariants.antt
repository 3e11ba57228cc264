use Rattle.std.proofs.Common.{length}
use Rattle.byte_message.proofs.line.+newline.Given as goal

abbrev pub decreases-newline : goal.decreases-newline
decreases-newline l = length l.bytes.now
