-- What each of those who took part tells comes to what is promised.
use Rattle.std.proofs.Common.{sym, subst, ◌∙◌}
use Rattle.pide_base.specs.declared.status.Status.{Status}
use Rattle.hist_lock.specs.Passes.{view}
use Rattle.thread_serve.specs.Promises.{IsServed}
use Rattle.thread_serve.proofs.Finished.{fault_so, served_so}
use Rattle.thread_serve.proofs.Statuses.{read_fault_only}
use Rattle.thread_serve.proofs.Told.{not_lost}
use Rattle.thread_serve.proofs.finishing.finish.Goals as goal

pub write_rest-is_lost-requires-clause-kept : goal.write_rest-is_lost-requires-clause-kept
write_rest-is_lost-requires-clause-kept g c = λ ended.
    let laws = c.run_laws.ensures in let closed = c.close-session.ensures.closed in
    not_lost g.L.Language.lang c.args.count (view c.args.read.pass)
    (view c.args.stopped.wrote.pass) c.close-session.result.session closed laws.lists.workers
    laws.lists.legal laws.callers.lost laws.callers.its_own (c.requires.sent ended)

pub returns-clause-served : goal.returns-clause-served
returns-clause-served g c = λ limit left held faults r w.
    let l = g.L.Language.lang in let laws = c.run_laws.ensures in let count = c.args.count in
    let out = c.args.stopped.wrote in let read = c.args.read in
    let now = g.K.Sink.contents out.sink in let later = g.K.Sink.faults out.sink in
    let reader = view read.pass in let writer = view out.pass in
    let s = c.close-session.result.session in let t = c.write_rest-is_lost.new.session in let then = g.K.Sink.contents c.write_rest-is_lost.new.sink in
    let closed = c.close-session.ensures.closed in let rest = c.write_rest-is_lost.ensures in
    let lost = c.write_rest-is_lost.result in let short = c.close-session.result.is_short in let left' = g.S.Source.left read.source in
    let served = served_so l laws count held now faults later out.written reader writer s closed w limit read.status left left' r t then lost short rest.same rest.rest
    c.close-session.ensures.free c.none_due.ensures in (
      subst (λ (h : Status). IsServed l limit h left left' held then t) (sym c.status_of.ensures) served,
      λ e. fault_so l laws count held now faults later out.written reader writer s closed w limit read.status left left' r t then lost short rest.same rest.rest
          (g.K.Sink.faults c.write_rest-is_lost.new.sink) rest.steady rest.cause (sym c.status_of.ensures ∙ e),
    )

pub returns-clause-read_fault : goal.returns-clause-read_fault
returns-clause-read_fault g c = λ e. read_fault_only c.write_rest-is_lost.result c.close-session.result.is_short c.args.read.status (sym c.status_of.ensures ∙ e)
