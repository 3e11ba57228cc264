use Rattle.hist_lock.specs.Known.{IsSameCaller}
use Rattle.hist_lock.specs.Passes.{view, IsPassOf}
use Rattle.test_calls.proofs.workers.end.Given as goal

abbrev pub invariant-ending : goal.invariant-ending
invariant-ending g l =
    (goal.iterator-ending g).can_next l.iterator' × (goal.iterator-ending g).is_finite l.iterator'
    × IsPassOf l.lock l.first × IsSameCaller (view l.initial.first) (view l.first)
