use Rattle.std.proofs.Common.{rules, ap, ◌∙◌}
use Rattle.hist_lock.proofs.Turns.{looks}
use Rattle.hist_lock.proofs.shared.Shared.wait_turn.Goals as goal

pub load-served-requires : goal.load-served-requires
load-served-requires g c = let h = c.requires.waits in
    (search rules, search rules, looks g.S.State.entries g.S.State.whose g.S.State.legal _ _ _ h.0 (ap (λ m. m.0.stage) c.loop.invariant.4 ∙ h.2))
