use Rattle.std.proofs.Common.{◌≡◌}
use Rattle.hist_lock.specs.Known.{IsSameCaller}
use Rattle.hist_lock.specs.Passes.{view, IsPassOf}
use Rattle.test_calls.proofs.workers.hands.add.Given as goal

abbrev pub invariant-adding : goal.invariant-adding
invariant-adding g l =
    (goal.iterator-adding g).can_next l.iterator' × (goal.iterator-adding g).is_finite l.iterator'
    × IsPassOf l.lock l.pass × IsSameCaller (view l.initial.pass) (view l.pass)
    × ((view l.pass).mine ≡ (view l.initial.pass).mine) × (l.mark ≡ l.initial.mark)
