-- What halted the answer of one message halts all.
use Rattle.std.proofs.Common.{◌∷◌, [], ◌++◌, ◌∙◌, sym, append_assoc}
use Rattle.message_input.proofs.Decoding.{left_over, waiting_next}
use Rattle.message_input.proofs.KnownHalting.{halts_after, passed}
use Rattle.message_input.proofs.piece.answer_whole.Goals as goal

pub messages-preserved : goal.messages-preserved
messages-preserved g c =
    let before = c.messages.invariant.0 in
    let next = waiting_next before.0 _ _ c.in-Some.message c.in-Some.ensures.takes in
    let one = c.in-Some.message ∷ [] in (
      (
        before.0 ++ one,
        before.1 ∙ next ∙ sym (append_assoc before.0 one c.next.new.self.waiting),
        g.met.A.Answering.goes_on c.args.answering.now c.messages.answering c.answer.new.self before.0 one before.2 c.in_ok-answer.ensures.ok,
      ),
      left_over c.args.frames.now c.messages.frames c.next.new.self c.in-Some.message c.messages.invariant.1 c.in-Some.ensures.takes,
    )

pub returns-in_err-answer-clause-err : goal.returns-in_err-answer-clause-err
returns-in_err-answer-clause-err g c =
    let before = c.messages.invariant.0 in
    let next = waiting_next before.0 _ _ c.in-Some.message c.in-Some.ensures.takes in
    let law = g.met.A.Answering in
    passed c.from_residual.result c.in_err-answer.field-0.0 _ c.from_residual.ensures.1
    (halts_after g.A.Answering.goes g.A.Answering.halts law.halts_later law.more_wait c.args.answering.now c.messages.answering c.answer.new.self before.0
    (c.in-Some.message ∷ []) c.next.new.self.waiting c.args.frames.now.waiting _ (before.1 ∙ next) before.2 c.in_err-answer.ensures.err)
