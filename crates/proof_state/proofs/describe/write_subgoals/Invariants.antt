use Rattle.proof_state.proofs.TextLemmas.{Leads}
use Rattle.std.specs.Prelude.{string_bytes}
use Rattle.proof_state.proofs.describe.write_subgoals.Given as goal

abbrev pub invariant-loop-subgoal : goal.invariant-loop-subgoal
invariant-loop-subgoal l = Leads (string_bytes l.initial.text) (string_bytes l.text) l.subgoals l.subgoal-index
