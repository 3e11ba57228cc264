-- What is pushed then joins what was pushed before.
use Rattle.std.proofs.Common.{rules, arith}
use Rattle.hist_lock.specs.Passes.{view}
use Rattle.worker_loop.specs.Written.{WritesOn, Holding}
use Rattle.worker_loop.proofs.Writes.{only_sent_on, writes_then, written_then}
use Rattle.worker_loop.proofs.writer.write_out.Goals as goal

pub returns-in-Some-send_next-clause-wrote : goal.returns-in-Some-send_next-clause-wrote
returns-in-Some-send_next-clause-wrote g c =
    let old = c.sending.invariant in
    let first : Holding = record { contents = g.K.Sink.contents c.args.sink; faults = g.K.Sink.faults c.args.sink } in
    let mid : Holding = record { contents = g.K.Sink.contents c.sending.sink; faults = g.K.Sink.faults c.sending.sink } in
    let last : Holding = record { contents = g.K.Sink.contents c.send_next.new.sink; faults = g.K.Sink.faults c.send_next.new.sink } in
    written_then g.O.Outbox.says (g.O.Outbox.sent c.args.who) (view c.args.pass) (view c.sending.pass) (view c.send_next.new.pass) first mid last
    c.in-Some-send_next.written old.7 old.6 c.in-Some-send_next.ensures.sent

pub sending-preserved : goal.sending-preserved
sending-preserved g c =
    let old = c.sending.invariant in
    let first : Holding = record { contents = g.K.Sink.contents c.args.sink; faults = g.K.Sink.faults c.args.sink } in
    let mid : Holding = record { contents = g.K.Sink.contents c.sending.sink; faults = g.K.Sink.faults c.sending.sink } in
    let last : Holding = record { contents = g.K.Sink.contents c.send_next.new.sink; faults = g.K.Sink.faults c.send_next.new.sink } in
    let says = g.O.Outbox.says in let sent = g.O.Outbox.sent c.args.who in
    let now : WritesOn says sent (view c.sending.pass) mid (view c.send_next.new.pass) last = c.in_default.ensures.sent in
    let low = c.send_next.ensures.steady in let before = old.7 in (
      tt,
      tt,
      search rules,
      search rules,
      only_sent_on says (view c.sending.pass) (view c.send_next.new.pass) old.4 now.3,
      c.in_default.ensures.knows,
      writes_then says sent (view c.args.pass) (view c.sending.pass) (view c.send_next.new.pass) first mid last old.6 now,
      omega arith,
    )
