-- The theory that the message brings is kept.
use Rattle.pide_build.specs.Theories.{next_theories}
use Rattle.pide_build.proofs.Kept.{goes_kept, made_kept}
use Rattle.pide_build.proofs.inbox.answer_one.Goals as goal

pub returns-in-Kept-clause-ok : goal.returns-in-Kept-clause-ok
returns-in-Kept-clause-ok g c =
    let old = c.args.inbox.now.theories in let message = c.args.message.now in
    goes_kept (g.K.Sink.contents c.args.inbox.now.sink) (g.K.Sink.faults c.args.inbox.now.sink) old c.take.new.theories message
    (made_kept c.in_ok-take.field-0 (next_theories message old) old c.take.new.theories
    c.in-Kept.is c.in_ok-take.ensures)
