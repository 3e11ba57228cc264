use Rattle.std.proofs.Common.{◌≤◌}
use Rattle.hist_lock.specs.Known.{IsSameCaller}
use Rattle.hist_lock.specs.Passes.{view, IsPassOf}
use Rattle.worker_loop.specs.Sending.{HasOnlySent, KnowsOwn}
use Rattle.worker_loop.specs.Written.{WritesOn}
use Rattle.worker_loop.proofs.writer.write_out.Given as goal

-- all that was handed over is pushed
abbrev pub invariant-sending : goal.invariant-sending
invariant-sending g l =
    (goal.iterator-sending g).can_next l.iterator' × (goal.iterator-sending g).is_finite l.iterator'
    × IsPassOf l.lock l.pass × IsSameCaller (view l.initial.pass) (view l.pass)
    × HasOnlySent g.O.Outbox.says (view l.pass) × KnowsOwn g.S.State.whose (view l.pass)
    × WritesOn g.O.Outbox.says (g.O.Outbox.sent l.who)
    (view l.initial.pass) (record { contents = g.K.Sink.contents l.initial.sink; faults = g.K.Sink.faults l.initial.sink })
    (view l.pass) (record { contents = g.K.Sink.contents l.sink; faults = g.K.Sink.faults l.sink })
    × (g.K.Sink.faults l.initial.sink ≤ g.K.Sink.faults l.sink)
