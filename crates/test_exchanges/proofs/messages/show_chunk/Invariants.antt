use Rattle.std.proofs.Common.{length}
use Rattle.test_exchanges.proofs.messages.show_chunk.Given as goal

abbrev pub decreases-loop-rest : goal.decreases-loop-rest
decreases-loop-rest l = length l.rest
