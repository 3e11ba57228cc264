-- The piece is fed, and what it makes whole is answered.
use Rattle.std.proofs.Common.{◌∙◌}
use Rattle.message_input.specs.declared.answering.Halt.TheVariants as halt
use Rattle.message_input.proofs.KnownHalting.{passed, piece_bad, piece_halts, piece_on, unread}
use Rattle.message_input.proofs.piece.answer_piece.Goals as goal

pub returns-in_err-fault-clause-err : goal.returns-in_err-fault-clause-err
returns-in_err-fault-clause-err g c =
    let law = g.met.A.Answering in
    passed c.from_residual.result halt.NoMemory _ c.from_residual.ensures.1
    (λ first taken k. unread g.A.Answering.goes g.A.Answering.halts law.halts_later first c.args.answering.now taken c.args.piece.now c.args.frames.now halt.NoMemory k
    (λ rest. law.short c.args.answering.now rest c.requires))

pub returns-in_err-answer_whole-clause-err : goal.returns-in_err-answer_whole-clause-err
returns-in_err-answer_whole-clause-err g c =
    let law = g.met.A.Answering in
    passed c.from_residual-in_err-answer_whole.result c.in_err-answer_whole.field-0.0 _ c.from_residual-in_err-answer_whole.ensures.1
    (λ first taken k. piece_halts g.A.Answering.goes g.A.Answering.halts law.halts_later law.more_wait first c.args.answering.now c.answer_whole.new.answering
    taken c.args.piece.now c.args.frames.now c.feed.new.frames _ k c.in_ok-fault.ensures.ok.0 c.in_err-answer_whole.ensures.err)

pub returns-clause-on : goal.returns-clause-on
returns-clause-on g c = λ e first taken k.
    let fed = c.in_ok-fault.ensures.ok in
    piece_on g.A.Answering.goes g.met.A.Answering.goes_on first c.args.answering.now c.answer_whole.new.answering taken c.args.piece.now c.args.frames.now
    c.feed.new.frames k fed.0 c.in_ok-answer_whole.ensures.ok (fed.1 ∙ cc) c.answer_whole.new.frames c.in_ok-answer_whole.ensures.none

pub returns-clause-bad : goal.returns-clause-bad
returns-clause-bad g c = λ fault e first taken k.
    let fed = c.in_ok-fault.ensures.ok in
    piece_bad g.A.Answering.goes g.met.A.Answering.goes_on first c.args.answering.now c.answer_whole.new.answering taken c.args.piece.now c.args.frames.now
    c.feed.new.frames k fed.0 c.in_ok-answer_whole.ensures.ok fault (fed.1 ∙ cc)
