-- The ids rise just where those that are left do.
use Rattle.std.proofs.Common.{◌↔◌, length}
use Rattle.reply_messages.specs.Forms.{IsRising}
use Rattle.reply_messages.proofs.rising.versions_rise.Given as goal

abbrev pub invariant-versions : goal.invariant-versions
invariant-versions l = (IsRising l.versions) ↔ (IsRising l.rest)

abbrev pub decreases-versions : goal.decreases-versions
decreases-versions l = length l.rest
