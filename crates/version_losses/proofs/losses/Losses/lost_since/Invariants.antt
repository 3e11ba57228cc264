use Rattle.std.proofs.Common.{◌≡◌, length}
use Rattle.version_losses.proofs.LostBehind.{lost_behind}
use Rattle.version_losses.proofs.losses.Losses.lost_since.Given as goal

abbrev pub invariant-older : goal.invariant-older
invariant-older l = lost_behind l.rest l.id ≡ lost_behind l.self.losses l.id

abbrev pub decreases-older : goal.decreases-older
decreases-older l = length l.rest
