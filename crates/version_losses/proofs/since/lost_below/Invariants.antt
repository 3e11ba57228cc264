use Rattle.std.proofs.Common.{◌≡◌, ◌++◌, drop}
use Rattle.version_losses.proofs.LostBehind.{lost_of}
use Rattle.version_losses.proofs.since.lost_below.Given as goal

abbrev pub invariant-versions : goal.invariant-versions
invariant-versions l = l.lost.items ++ lost_of l.next (drop l.loss-index l.newer) ≡ lost_of l.next l.newer
