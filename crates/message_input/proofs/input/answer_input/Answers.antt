-- By what the input came to.
use Rattle.message_input.proofs.Ends.{answered_to_end}
use Rattle.message_input.proofs.input.answer_input.Goals as goal

pub returns-in-Ok-clause-answered : goal.returns-in-Ok-clause-answered
returns-in-Ok-clause-answered g c =
    answered_to_end g.A.Answering.goes g.A.Answering.halts g.A.Answering.ends c.args.limit _ _ c.args.answering.now c.take_input.new.answering c.end.new.self
    c.end.ensures c.in-Ok.status c.in-Ok.ensures.ok
