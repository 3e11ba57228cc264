-- A snapshot was answered at once, and its reply written.
use Rattle.std.proofs.Common.{[], ◌∷◌, inl, ◌∙◌}
use Rattle.document_session.specs.Contents.{SessionState}
use Rattle.message_input.specs.Answers.{HaltsAmong}
use Rattle.message_input.specs.declared.answering.Halt.TheVariants as halt
use Rattle.message_input.proofs.KnownHalting.{passed}
use Rattle.document_serve.proofs.KnownAnswered.{written_err, written_ok}
use Rattle.mirror_serve.specs.Halts.{HaltsSo}
use Rattle.mirror_serve.proofs.Written.{halts_before, halts_counted, rests_written}
use Rattle.mirror_serve.proofs.answering.show.Goals as goal

pub returns-in_err-note_look-clause-err : goal.returns-in_err-note_look-clause-err
returns-in_err-note_look-clause-err g c =
    let l = g.L.Language.lang in
    let held = g.K.Sink.contents c.args.sink.now in
    let faults = g.K.Sink.faults c.args.sink.now in
    let new = c.note_look.new.session in
    passed c.from_residual.result halt.NoMemory (λ h. HaltsAmong
    (λ (o : SessionState) first x rest (n : SessionState). HaltsSo l x held held faults faults o n first rest) c.args.session.now (c.args.message ∷ []) h new)
    c.from_residual.ensures.1
    (halts_before l held faults c.args.session.now new c.args.message c.requires.rests.session c.in_err-note_look.ensures.err)

pub returns-clause-ok : goal.returns-clause-ok
returns-clause-ok g c = written_ok g.L.Language.lang c.mirror_laws.ensures.hearing.lists c.mirror_laws.ensures.asks
    (g.K.Sink.contents c.args.sink.now) (g.K.Sink.contents c.write_out.new.sink) c.args.session.now c.note_look.new.session c.write_out.new.session
    c.args.message c.requires.rests.session c.note_look.ensures.service c.note_look.ensures.legal (inl c.in_ok-note_look.ensures.items)
    c.write_out.result c.write_out.ensures.written

pub returns-clause-rests : goal.returns-clause-rests
returns-clause-rests g c =
    let goes = written_ok g.L.Language.lang c.mirror_laws.ensures.hearing.lists c.mirror_laws.ensures.asks
    (g.K.Sink.contents c.args.sink.now) (g.K.Sink.contents c.write_out.new.sink) c.args.session.now c.note_look.new.session c.write_out.new.session
    c.args.message c.requires.rests.session c.note_look.ensures.service c.note_look.ensures.legal (inl c.in_ok-note_look.ensures.items)
    c.write_out.result c.write_out.ensures.written in
    rests_written g.L.Language.lang (g.K.Sink.contents c.args.sink.now) (g.K.Sink.contents c.write_out.new.sink)
    c.args.session.now c.note_look.new.session c.write_out.new.session c.args.ear.now c.requires.rests c.args.message c.is_within_limits.ensures
    (c.write_out.ensures.service ∙ c.note_look.ensures.service) c.note_look.ensures.service c.in_ok-note_look.ensures.items
    c.in_ok-note_look.ensures.image c.in_ok-note_look.ensures.short c.write_out.result c.write_out.ensures.written goes

pub returns-clause-err : goal.returns-clause-err
returns-clause-err g c =
    let stops = written_err g.L.Language.lang c.mirror_laws.ensures.hearing.lists c.mirror_laws.ensures.asks
    (g.K.Sink.contents c.args.sink.now) (g.K.Sink.contents c.write_out.new.sink) c.args.session.now c.note_look.new.session c.write_out.new.session
    c.args.message c.requires.rests.session c.note_look.ensures.service c.note_look.ensures.legal (inl c.in_ok-note_look.ensures.items)
    c.write_out.result c.write_out.ensures.written in
    halts_counted g.L.Language.lang c.write_out.result (g.K.Sink.contents c.args.sink.now) (g.K.Sink.contents c.write_out.new.sink)
    (g.K.Sink.faults c.args.sink.now) (g.K.Sink.faults c.write_out.new.sink) c.args.session.now c.write_out.new.session (c.args.message ∷ [])
    stops c.write_out.ensures.cause
