use Rattle.hist_lock.specs.Known.{IsSameCaller}
use Rattle.hist_lock.specs.Passes.{view, IsPassOf}
use Rattle.worker_loop.specs.Stays.{SeesOn}
use Rattle.thread_serve.proofs.watching.look_until_ended.Given as goal

-- the caller has only looked
abbrev pub invariant-looking : goal.invariant-looking
invariant-looking g l =
    (goal.iterator-looking g).can_next l.iterator' × (goal.iterator-looking g).is_finite l.iterator'
    × IsPassOf l.lock l.pass × IsSameCaller (view l.initial.pass) (view l.pass) × SeesOn (view l.initial.pass) (view l.pass)
