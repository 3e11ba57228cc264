-- Where nothing is handed over nothing is pushed, however many entries of others come.
use Rattle.std.proofs.Common.{ap, ◌∙◌}
use Rattle.hist_lock.specs.Passes.{view}
use Rattle.worker_loop.proofs.Writes.{idles, own_same}
use Rattle.worker_loop.proofs.writer.send_next.Goals as goal

pub returns-in-Nothing-clause-sent : goal.returns-in-Nothing-clause-sent
returns-in-Nothing-clause-sent g c =
    let given = c.in-Nothing.ensures.given in let wait = c.wait_change.ensures in
    let old = view c.args.pass.now in let seen = view c.next.new.pass in let more = view c.wait_change.new.pass in
    let is = ap (λ v. v.caller) c.in-Nothing.ensures.same ∙ c.requires.who in
    let same = own_same g.S.State.whose c.args.who seen more is wait.rest c.in-Nothing.ensures.knows wait.mine in
    idles g.O.Outbox.says (g.O.Outbox.sent c.args.who) old more
    (record { contents = g.K.Sink.contents c.args.sink.now; faults = g.K.Sink.faults c.args.sink.now })
    (g.met.O.Outbox.others_hand_nothing c.args.who seen.seen more.seen wait.legal wait.begins same ∙ given.1)
    (ap (λ v. v.mine) wait.rest ∙ given.0.1)

pub returns-in-Ended-clause-sent : goal.returns-in-Ended-clause-sent
returns-in-Ended-clause-sent g c =
    let given = c.in-Ended.ensures.given in (
      idles g.O.Outbox.says (g.O.Outbox.sent c.args.who) (view c.args.pass.now) (view c.next.new.pass)
          (record { contents = g.K.Sink.contents c.args.sink.now; faults = g.K.Sink.faults c.args.sink.now })
          given.1 given.0.1,
      given.2,
    )
