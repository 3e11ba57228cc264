-- What came of the message, with the sink's count.
use Rattle.std.proofs.Common.{◌∷◌, []}
use Rattle.document_serve.proofs.Inputs.{one_goes, one_halts}
use Rattle.document_serve.proofs.alone.AloneAnswering.answer.Goals as goal

pub returns-clause-ok : goal.returns-clause-ok
returns-clause-ok g c = one_goes g.L.Language.lang (λ a. a.session) (λ a. g.K.Sink.contents a.sink) (λ a. g.K.Sink.faults a.sink) c.args.self.now
    (record c.args.self.now { session = c.serve_message.new.session; sink = c.serve_message.new.sink }) (c.args.message ∷ []) c.serve_message.result c.serve_message.ensures.ok c.serve_message.ensures.steady

pub returns-clause-err : goal.returns-clause-err
returns-clause-err g c = one_halts g.L.Language.lang (λ a. a.session) (λ a. g.K.Sink.contents a.sink) (λ a. g.K.Sink.faults a.sink) c.args.self.now
    (record c.args.self.now { session = c.serve_message.new.session; sink = c.serve_message.new.sink }) (c.args.message ∷ []) c.serve_message.result c.serve_message.ensures.err c.serve_message.ensures.counts
