use Rattle.std.proofs.Common.{◌≡◌}
use Rattle.std.specs.List.{list_any}
use Rattle.proof_state.specs.Fresh.{is_used}
use Rattle.proof_state.proofs.fresh.is_used_around.Given as goal

abbrev pub invariant-loop-frame : goal.invariant-loop-frame
invariant-loop-frame l =
    (goal.iterator-loop-frame).can_next l.frame-iterator × (goal.iterator-loop-frame).is_finite l.frame-iterator
    × (list_any (λ frame. is_used l.name frame.block) l.frame-iterator ≡ list_any (λ frame. is_used l.name frame.block) l.around)
