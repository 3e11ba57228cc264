use Rattle.std.proofs.Common.{◌≡◌}
use Rattle.std.proofs.Common.{map, filter}
use Rattle.std.specs.List.{list_any, list_all}
use Rattle.proof_state.specs.Blocks.{is_assumption}
use Rattle.proof_state.specs.Fits.{assumed}
use Rattle.proof_state.specs.Same.{says_same}
use Rattle.proof_state.proofs.fits.are_assumed.Given as goal

abbrev pub invariant-loop-fact : goal.invariant-loop-fact
invariant-loop-fact l =
    (goal.iterator-loop-fact).can_next l.fact-iterator × (goal.iterator-loop-fact).is_finite l.fact-iterator
    × (list_all (λ a. list_any (says_same a) (assumed l.subgoal)) (map (λ fact. fact.formula) (filter is_assumption l.fact-iterator)) ≡ list_all (λ a. list_any (says_same a) (assumed l.subgoal)) (map (λ fact. fact.formula) (filter is_assumption l.facts)))
