use Rattle.std.proofs.Common.{length}
use Rattle.byte_message.proofs.write.+put_chunks.Given as goal

abbrev pub decreases-put_chunks : goal.decreases-put_chunks
decreases-put_chunks l = length l.chunks.now
