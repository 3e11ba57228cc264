-- What came of the answers is the run.
use Rattle.mirror_serve.specs.Resting.{Rests}
use Rattle.message_input.proofs.KnownHalting.{write_halted}
use Rattle.document_serve.proofs.KnownEnds.{Ends}
use Rattle.mirror_serve.proofs.Begins.{rests_first}
use Rattle.mirror_serve.proofs.Inputs.{Goes, Halts, long_so, run_of, same_service}
use Rattle.mirror_serve.proofs.run.serve_mirrored.Goals as goal

pub answer_input-status-requires : goal.answer_input-status-requires
answer_input-status-requires g c = rests_first g.L.Language.lang c.args.mirrored.session c.args.mirrored.ear c.requires.new c.requires.alone c.requires.tellable
    c.requires.mode c.requires.unheard c.requires.fresh c.requires.fine

pub returns-clause-service : goal.returns-clause-service
returns-clause-service g c = same_service g.L.Language.lang (λ a. a.session) (λ a. g.K.Sink.contents a.sink) (λ a. g.K.Sink.faults a.sink)
    (λ a. Rests g.L.Language.lang a.session a.ear) c.hearing_laws.ensures.lists c.args.mirrored c.answer_input-status.new.answering c.requires.new
    c.none_due.ensures (λ x keeps. keeps.short) _ _ _ c.answer_input-status.ensures.answered

pub returns-clause-run : goal.returns-clause-run
returns-clause-run g c = run_of g.L.Language.lang (λ a. a.session) (λ a. g.K.Sink.contents a.sink) (λ a. g.K.Sink.faults a.sink)
    (λ a. Rests g.L.Language.lang a.session a.ear) c.hearing_laws.ensures.lists c.args.mirrored c.answer_input-status.new.answering c.requires.new
    c.none_due.ensures (λ x keeps. keeps.short) _ _ _ c.answer_input-status.ensures.answered c.args.limit c.answer_input-status.ensures.causes

pub returns-clause-replies : goal.returns-clause-replies
returns-clause-replies g c = long_so g.L.Language.lang (λ a. a.session) (λ a. g.K.Sink.contents a.sink) (λ a. g.K.Sink.faults a.sink)
    (λ a. Rests g.L.Language.lang a.session a.ear) c.hearing_laws.ensures.lists c.args.mirrored c.answer_input-status.new.answering c.requires.new
    c.none_due.ensures (λ x keeps. keeps.short) _ _ _ c.answer_input-status.ensures.answered

pub returns-clause-write_fault : goal.returns-clause-write_fault
returns-clause-write_fault g c = write_halted
    (Goes g.L.Language.lang (λ a. a.session) (λ a. g.K.Sink.contents a.sink) (λ a. g.K.Sink.faults a.sink) (λ a. Rests g.L.Language.lang a.session a.ear))
    (Halts g.L.Language.lang (λ a. a.session) (λ a. g.K.Sink.contents a.sink) (λ a. g.K.Sink.faults a.sink) (λ a. Rests g.L.Language.lang a.session a.ear))
    (Ends g.L.Language.lang (λ a. a.session) (λ a. g.K.Sink.contents a.sink) (λ a. g.K.Sink.faults a.sink)) _ _
    c.args.mirrored c.answer_input-status.new.answering _ (λ first rest h. h.1) _ c.answer_input-status.ensures.answered
