use Rattle.std.proofs.Common.{◌≡◌, take}
use Rattle.proof_state.proofs.subgoal.copies.Given as goal

abbrev pub invariant-loop-subgoal : goal.invariant-loop-subgoal
invariant-loop-subgoal l = l.copies ≡ take l.subgoal-index l.subgoals
