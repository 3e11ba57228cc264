use Rattle.std.proofs.Common.{length}
use Rattle.byte_message.specs.Kept.{Reached}
use Rattle.byte_message.proofs.read.read.Given as goal

abbrev pub invariant-loop-made : goal.invariant-loop-made
invariant-loop-made l = Reached l.fn.before.items l.fn.at l.fn.bytes l.made.items l.place l.rest

abbrev pub decreases-loop-made : goal.decreases-loop-made
decreases-loop-made l = length l.rest
