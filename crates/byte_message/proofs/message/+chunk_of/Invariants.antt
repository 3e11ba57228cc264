use Rattle.std.proofs.Common.{length}
use Rattle.byte_message.proofs.message.+chunk_of.Given as goal

abbrev pub decreases-chunk_of : goal.decreases-chunk_of
decreases-chunk_of l = length l.lengths.now
