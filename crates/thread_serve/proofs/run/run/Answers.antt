-- The reader rests, and the writer was handed nothing, when the run begins; what both and the rest
-- tell is what is promised.
use Rattle.std.proofs.Common.{◌+◌, ap, ◌∙◌}
use Rattle.hist_lock.specs.Callers.{parent}
use Rattle.hist_lock.specs.Passes.{view}
use Rattle.hist_lock.specs.declared.view.View.{View}
use Rattle.document_session.specs.keeping_rules_below.Items.{SessionItem}
use Rattle.thread_serve.proofs.Begun.{new_calls, new_rests, new_writer}
use Rattle.thread_serve.proofs.Handing.{only_sent}
use Rattle.thread_serve.proofs.run.run.Goals as goal

pub run_together-stopped-requires-clause-rests : goal.run_together-stopped-requires-clause-rests
run_together-stopped-requires-clause-rests g c κs within =
    let is = c.split-writer.ensures.parent ∙ ap parent (c.split_workers-passes.ensures.first ∙ ap (λ (z : View SessionItem). record z { made = c.args.count }) c.requires.first) in
    new_rests c.args.lock c.split-writer.new.pass c.split-writer.ensures.own.0 c.args.count (c.args.count + 1) is

pub run_together-stopped-requires-clause-new : goal.run_together-stopped-requires-clause-new
run_together-stopped-requires-clause-new g c κs within =
    let is = c.split-writer.ensures.parent ∙ ap parent (c.split_workers-passes.ensures.first ∙ ap (λ (z : View SessionItem). record z { made = c.args.count }) c.requires.first) in
    new_calls c.args.lock c.split-writer.new.pass c.split-writer.ensures.own.0 c.args.count (c.args.count + 1) is

pub run_together-stopped-requires-clause-writer : goal.run_together-stopped-requires-clause-writer
run_together-stopped-requires-clause-writer g c κs within =
    let from = c.split_workers-passes.ensures.first ∙ ap (λ (z : View SessionItem). record z { made = c.args.count }) c.requires.first in
    new_writer c.args.lock c.split-writer.result c.split-writer.ensures.own.1 c.args.count g.L.Language.lang (view c.split_workers-passes.new.first) from c.split-writer.ensures.child

pub finish-requires-clause-sent : goal.finish-requires-clause-sent
finish-requires-clause-sent g c =
    let out = c.run_together-stopped.result.0.wrote in
    let contents = g.K.Sink.contents in let faults = g.K.Sink.faults in
    only_sent g.L.Language.lang (c.args.count + 1)
    (record { contents = contents c.args.sink; faults = faults c.args.sink })
    (record { contents = contents out.sink; faults = faults out.sink })
    out.written (view out.pass) c.run_together-stopped.ensures.written.wrote

pub returns-clause-served : goal.returns-clause-served
returns-clause-served g c =
    let all = c.run_together-stopped.ensures in
    (c.finish.ensures.served c.args.limit (g.S.Source.left c.args.source)
    (g.K.Sink.contents c.args.sink) (g.K.Sink.faults c.args.sink) all.read all.written).0

pub returns-clause-write_fault : goal.returns-clause-write_fault
returns-clause-write_fault g c =
    let all = c.run_together-stopped.ensures in
    (c.finish.ensures.served c.args.limit (g.S.Source.left c.args.source)
    (g.K.Sink.contents c.args.sink) (g.K.Sink.faults c.args.sink) all.read all.written).1
