-- Nothing else hinders a run whose bytes end between messages.
use Rattle.message_input.proofs.KnownCompletes.{completes}
use Rattle.document_serve.proofs.run.serve.Goals as goal

pub returns-clause-complete : goal.returns-clause-complete
returns-clause-complete g c = completes c.args.limit (g.S.Source.left c.args.source.now) (g.S.Source.left c.serve_alone.new.source)
    (g.S.Source.faults c.args.source.now) (g.S.Source.faults c.serve_alone.new.source)
    (g.K.Sink.faults c.args.sink) (g.K.Sink.faults c.serve_alone.result.sink) c.serve_alone.result.status
    c.serve_alone.ensures.run.cause c.serve_alone.ensures.read_fault c.serve_alone.ensures.write_fault c.serve_alone.ensures.no_reply
