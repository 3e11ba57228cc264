-- A whole message leads one step on.
use Rattle.std.proofs.Common.{arith}
use Rattle.std.proofs.lemmas.List.{take_rest}
use Rattle.byte_message.proofs.Reaching.{reached-same, reached-step}
use Rattle.byte_message.proofs.read.read.Goals as goal

pub loop-made-init : goal.loop-made-init
loop-made-init c = reached-same _ _ _ (omega arith)

pub loop-made-preserved : goal.loop-made-preserved
loop-made-preserved c =
    let one = rw c.in-Whole.is at c.in_ok-message.ensures in
    rw (take_rest c.loop-made.rest.now c.in-Whole.used)
    (reached-step c.in-Whole.message c.in-Whole.used c.loop-made.invariant one.0 one.2 c.in_ok-push_back-in-Whole.ensures.items c.saturating_add-place.ensures)
