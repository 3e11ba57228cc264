-- What came of the answers is the run.
use Rattle.message_input.proofs.KnownHalting.{write_halted}
use Rattle.document_serve.proofs.KnownEnds.{Ends}
use Rattle.document_serve.proofs.Inputs.{Goes, Halts, never_long, run_of, same_service}
use Rattle.document_serve.proofs.run.serve_alone.Goals as goal

pub returns-clause-service : goal.returns-clause-service
returns-clause-service g c = same_service g.L.Language.lang (λ a. a.session) (λ a. g.K.Sink.contents a.sink) (λ a. g.K.Sink.faults a.sink)
    c.list_laws.ensures c.args.alone c.answer_input-status.new.answering c.requires.new c.none_due.ensures _ _ _ c.answer_input-status.ensures.answered

pub returns-clause-run : goal.returns-clause-run
returns-clause-run g c = run_of g.L.Language.lang (λ a. a.session) (λ a. g.K.Sink.contents a.sink) (λ a. g.K.Sink.faults a.sink)
    c.list_laws.ensures c.args.alone c.answer_input-status.new.answering c.requires.new c.none_due.ensures _ _ _ c.answer_input-status.ensures.answered c.args.limit c.answer_input-status.ensures.causes

pub returns-clause-write_fault : goal.returns-clause-write_fault
returns-clause-write_fault g c = write_halted
    (Goes g.L.Language.lang (λ a. a.session) (λ a. g.K.Sink.contents a.sink) (λ a. g.K.Sink.faults a.sink))
    (Halts g.L.Language.lang (λ a. a.session) (λ a. g.K.Sink.contents a.sink) (λ a. g.K.Sink.faults a.sink))
    (Ends g.L.Language.lang (λ a. a.session) (λ a. g.K.Sink.contents a.sink) (λ a. g.K.Sink.faults a.sink)) _ _
    c.args.alone c.answer_input-status.new.answering _ (λ first rest h. h.1) _ c.answer_input-status.ensures.answered

pub returns-clause-no_reply : goal.returns-clause-no_reply
returns-clause-no_reply g c = never_long g.L.Language.lang (λ a. a.session) (λ a. g.K.Sink.contents a.sink) (λ a. g.K.Sink.faults a.sink)
    c.list_laws.ensures c.args.alone c.answer_input-status.new.answering c.requires.new c.none_due.ensures _ _ _ c.answer_input-status.ensures.answered
