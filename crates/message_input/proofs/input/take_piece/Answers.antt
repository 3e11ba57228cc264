-- A piece is answered, or the source tells that none comes.
use Rattle.std.proofs.Common.{◌++◌, length, take, arith}
use Rattle.std.proofs.KnownBytes.{Consumes-kept}
use Rattle.message_input.proofs.Ends.{bad_read, end_read, fault_read, halted_of}
use Rattle.message_input.proofs.KnownHalting.{passed}
use Rattle.message_input.proofs.Pulling.{pulled_more}
use Rattle.message_input.proofs.input.take_piece.Goals as goal

pub returns-in_err-answer_piece-in-Bytes-clause-err : goal.returns-in_err-answer_piece-in-Bytes-clause-err
returns-in_err-answer_piece-in-Bytes-clause-err g c =
    passed c.from_residual.result c.in_err-answer_piece-in-Bytes.field-0.0 _ c.from_residual.ensures.1 (λ first left taken limit took few k.
    let more = pulled_more left _ _ taken c.pull.new.buffer c.in-Bytes.count (length c.args.buffer.now) limit took few (omega arith) c.in-Bytes.ensures.bytes in
    halted_of g.A.Answering.halts limit _ left _ (taken ++ take c.in-Bytes.count c.pull.new.buffer) first _ more.0 more.1
    (c.in_err-answer_piece-in-Bytes.ensures.err first taken k))

pub returns-in-None-clause-ok : goal.returns-in-None-clause-ok
returns-in-None-clause-ok g c = λ first left taken limit took few k.
    let more = pulled_more left _ _ taken c.pull.new.buffer c.in-Bytes.count (length c.args.buffer.now) limit took few (omega arith) c.in-Bytes.ensures.bytes in
    let on = c.in_ok-answer_piece-in-Bytes.ensures.on (cc) first taken k in
    (take c.in-Bytes.count c.pull.new.buffer, more.2, c.in-Bytes.ensures.bytes.0, more.3, more.0, on)

pub returns-in-Some-clause-ok : goal.returns-in-Some-clause-ok
returns-in-Some-clause-ok g c = λ first left taken limit took few k.
    let more = pulled_more left _ _ taken c.pull.new.buffer c.in-Bytes.count (length c.args.buffer.now) limit took few (omega arith) c.in-Bytes.ensures.bytes in
    let bad = c.in_ok-answer_piece-in-Bytes.ensures.bad c.in-Some.fault (cc) first taken k in
    bad_read g.A.Answering.goes limit left _ (taken ++ take c.in-Bytes.count c.pull.new.buffer) more.0 first _ c.in-Some.fault c.place_of-at.result
    c.place_of-at.ensures bad more.1

pub returns-in-End-clause-ok : goal.returns-in-End-clause-ok
returns-in-End-clause-ok g c = λ first left taken limit took few k.
    let pulled = c.in-End.ensures.bytes in
    let kept = Consumes-kept left _ _ taken took pulled.1 in
    end_read g.A.Answering.goes limit left _ taken kept first c.args.answering.now c.args.frames.now k c.end_status.result c.end_status.ensures pulled.0 (omega arith)

pub returns-in-Failed-clause-ok : goal.returns-in-Failed-clause-ok
returns-in-Failed-clause-ok g c = λ first left taken limit took few k.
    let kept = Consumes-kept left _ _ taken took c.in-Failed.ensures.bytes in
    fault_read g.A.Answering.goes limit left _ taken kept first c.args.answering.now c.args.frames.now k (omega arith)
