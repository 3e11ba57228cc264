use Rattle.hist_lock.specs.Known.{IsSameCaller}
use Rattle.hist_lock.specs.Passes.{view, IsPassOf}
use Rattle.test_calls.proofs.turns.wait_for_another.Given as goal

abbrev pub invariant-loop : goal.invariant-loop
invariant-loop g l =
    (goal.iterator-loop g).can_next l.iterator' × (goal.iterator-loop g).is_finite l.iterator'
    × IsPassOf l.lock l.pass × IsSameCaller (view l.initial.pass) (view l.pass)
