-- The ids rise just where those that are left do.
use Rattle.std.proofs.Common.{◌↔◌, length}
use Rattle.reply_messages.specs.Forms.{IsRising}
use Rattle.reply_messages.proofs.rising.execs_rise.Given as goal

abbrev pub invariant-execs : goal.invariant-execs
invariant-execs l = (IsRising l.execs) ↔ (IsRising l.rest)

abbrev pub decreases-execs : goal.decreases-execs
decreases-execs l = length l.rest
