-- Nothing else hinders a run whose bytes end between messages, and whose replies are short.
use Rattle.message_input.proofs.KnownCompletes.{completes}
use Rattle.mirror_serve.proofs.Inputs.{never_long}
use Rattle.mirror_serve.proofs.run.serve.Goals as goal

pub returns-clause-complete : goal.returns-clause-complete
returns-clause-complete g c = λ short. completes c.args.limit (g.S.Source.left c.args.source.now) (g.S.Source.left c.serve_mirrored.new.source)
    (g.S.Source.faults c.args.source.now) (g.S.Source.faults c.serve_mirrored.new.source)
    (g.K.Sink.faults c.args.sink) (g.K.Sink.faults c.serve_mirrored.result.sink) c.serve_mirrored.result.status
    c.serve_mirrored.ensures.run.cause c.serve_mirrored.ensures.read_fault c.serve_mirrored.ensures.write_fault
    (never_long g.L.Language.lang c.serve_mirrored.result.session c.serve_mirrored.result.status c.serve_mirrored.ensures.replies short)
