use Rattle.std.proofs.Common.{◌≡◌, length}
use Rattle.byte_message.proofs.LongChunks.{long_on}
use Rattle.byte_message.proofs.long.long_chunk.Given as goal

-- what is left of the line tells the same
abbrev pub invariant-header : goal.invariant-header
invariant-header l = long_on l.size l.rest ≡ long_on 0 l.spelled

abbrev pub decreases-header : goal.decreases-header
decreases-header l = length l.rest
