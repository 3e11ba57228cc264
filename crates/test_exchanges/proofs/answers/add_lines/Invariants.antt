use Rattle.std.proofs.Common.{length}
use Rattle.test_exchanges.proofs.answers.add_lines.Given as goal

abbrev pub decreases-loop-end : goal.decreases-loop-end
decreases-loop-end l = length l.rest
