-- A job that met want of memory leaves what is held.
use Rattle.hist_lock.specs.Passes.{view}
use Rattle.thread_serve.proofs.Answered.{still_held}
use Rattle.thread_serve.proofs.answering.pass_time.Goals as goal

pub returns-in-Job-clause-err : goal.returns-in-Job-clause-err
returns-in-Job-clause-err g c = still_held c.help.result (view c.args.pass.now) (view c.help.new.pass) c.help.ensures.err
