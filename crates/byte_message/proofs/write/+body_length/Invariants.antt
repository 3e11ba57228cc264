use Rattle.std.proofs.Common.{length}
use Rattle.byte_message.proofs.write.+body_length.Given as goal

abbrev pub decreases-body_length : goal.decreases-body_length
decreases-body_length l = length l.chunks.now
