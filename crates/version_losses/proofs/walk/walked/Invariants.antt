use Rattle.std.proofs.Common.{◌≡◌, ◌++◌, [], true, drop}
use Rattle.version_losses.specs.Leaving.{left_from, gone_from}
use Rattle.version_losses.proofs.walk.walked.Given as goal

abbrev pub invariant-versions : goal.invariant-versions
invariant-versions l = (l.walk.left.items ++ left_from l.ids l.walk.whole l.walk.next l.walk.carried.items (drop l.loss-index l.losses)
    ≡ left_from l.ids true 0 [] l.losses)
    × (l.walk.gone.items ++ gone_from l.ids l.walk.whole l.walk.next (drop l.loss-index l.losses) ≡ gone_from l.ids true 0 l.losses)
