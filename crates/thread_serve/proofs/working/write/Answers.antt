-- All that it made and was handed came in this call.
use Rattle.std.proofs.Common.{ap, ◌∙◌}
use Rattle.hist_lock.specs.Passes.{view}
use Rattle.thread_serve.proofs.Handing.{wrote_so}
use Rattle.thread_serve.proofs.working.write.Goals as goal

pub returns-clause-written : goal.returns-clause-written
returns-clause-written g c =
    let out = c.write_out.ensures in let new = c.requires.writer in
    let v = view c.args.pass in let w = view c.write_out.result.pass in record {
      writer = ap (λ z. z.caller) out.same ∙ new.writer;
      knows = out.knows;
      wrote = wrote_so g.L.Language.lang c.args.who v w (record { contents = g.K.Sink.contents c.args.sink; faults = g.K.Sink.faults c.args.sink })
          (record { contents = g.K.Sink.contents c.write_out.result.sink; faults = g.K.Sink.faults c.write_out.result.sink })
          new.none_made new.none_handed c.write_out.result.written out.wrote;
      steady = out.steady;
    }
