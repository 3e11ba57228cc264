use Rattle.std.proofs.Common.{◌≡◌, None}
use Rattle.hist_lock.specs.Known.{IsSameCaller}
use Rattle.hist_lock.specs.Passes.{view, IsPassOf}
use Rattle.worker_loop.specs.Held.{held_in}
use Rattle.worker_loop.specs.Rounds.{GoesOn}
use Rattle.worker_loop.proofs.worker.work.Given as goal

-- the worker went on by rounds, and holds nothing
abbrev pub invariant-rounds : goal.invariant-rounds
invariant-rounds g l =
    (goal.iterator-rounds g).can_next l.iterator' × (goal.iterator-rounds g).is_finite l.iterator'
    × IsPassOf l.lock l.pass × IsSameCaller (view l.initial.pass) (view l.pass)
    × (held_in g.W.Work.says (view l.pass).mine ≡ None) × GoesOn g.W.Work.says (view l.initial.pass) None (view l.pass) None
