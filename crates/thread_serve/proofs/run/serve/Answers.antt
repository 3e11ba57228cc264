-- A run that was not begun keeps what is promised, whatever the limit; one that was begun is done
-- where nothing hinders it.
use Rattle.message_input.proofs.KnownCompletes.{completes}
use Rattle.thread_serve.proofs.run.serve.Goals as goal

pub returns-in_default-clause-bytes_written : goal.returns-in_default-clause-bytes_written
returns-in_default-clause-bytes_written g c = (c.unbegun.ensures.served c.args.limit).written

pub returns-in_default-clause-bytes_sent : goal.returns-in_default-clause-bytes_sent
returns-in_default-clause-bytes_sent g c = (c.unbegun.ensures.served c.args.limit).sent

pub returns-in_default-clause-lost : goal.returns-in_default-clause-lost
returns-in_default-clause-lost g c = (c.unbegun.ensures.served c.args.limit).lost

pub returns-in_default-clause-one_legal_history : goal.returns-in_default-clause-one_legal_history
returns-in_default-clause-one_legal_history g c = (c.unbegun.ensures.served c.args.limit).legal

pub returns-in_default-clause-messages_read : goal.returns-in_default-clause-messages_read
returns-in_default-clause-messages_read g c = (c.unbegun.ensures.served c.args.limit).read

pub returns-in_default-clause-long_input : goal.returns-in_default-clause-long_input
returns-in_default-clause-long_input g c = (c.unbegun.ensures.served c.args.limit).causes.long_input

pub returns-in-Err-clause-bytes_written : goal.returns-in-Err-clause-bytes_written
returns-in-Err-clause-bytes_written g c = (c.unbegun-in-Err.ensures.served c.args.limit).written

pub returns-in-Err-clause-bytes_sent : goal.returns-in-Err-clause-bytes_sent
returns-in-Err-clause-bytes_sent g c = (c.unbegun-in-Err.ensures.served c.args.limit).sent

pub returns-in-Err-clause-lost : goal.returns-in-Err-clause-lost
returns-in-Err-clause-lost g c = (c.unbegun-in-Err.ensures.served c.args.limit).lost

pub returns-in-Err-clause-one_legal_history : goal.returns-in-Err-clause-one_legal_history
returns-in-Err-clause-one_legal_history g c = (c.unbegun-in-Err.ensures.served c.args.limit).legal

pub returns-in-Err-clause-messages_read : goal.returns-in-Err-clause-messages_read
returns-in-Err-clause-messages_read g c = (c.unbegun-in-Err.ensures.served c.args.limit).read

pub returns-in-Err-clause-long_input : goal.returns-in-Err-clause-long_input
returns-in-Err-clause-long_input g c = (c.unbegun-in-Err.ensures.served c.args.limit).causes.long_input

pub returns-in-Ok-new-clause-complete : goal.returns-in-Ok-new-clause-complete
returns-in-Ok-new-clause-complete g c =
    let now = c.run.result in let run = c.run.ensures in
    completes c.args.limit (g.S.Source.left c.args.source) (g.S.Source.left now.source)
    (g.S.Source.faults c.args.source) (g.S.Source.faults now.source)
    (g.K.Sink.faults c.args.sink) (g.K.Sink.faults now.sink) now.status
    run.served.causes run.read_fault run.write_fault run.served.replies

pub returns-in_default-clause-no_reply : goal.returns-in_default-clause-no_reply
returns-in_default-clause-no_reply g c = (c.unbegun.ensures.served c.args.limit).replies

pub returns-in-Err-clause-no_reply : goal.returns-in-Err-clause-no_reply
returns-in-Err-clause-no_reply g c = (c.unbegun-in-Err.ensures.served c.args.limit).replies
