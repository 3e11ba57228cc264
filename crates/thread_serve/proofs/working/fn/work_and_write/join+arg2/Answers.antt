-- A session that workers share may go to another thread.
use Rattle.thread_serve.proofs.Crossing.{locked_send}
use Rattle.thread_serve.proofs.CrossingLists.{lists}
use Rattle.thread_serve.proofs.working.fn.work_and_write.join+arg2.Goals as goal

pub run_workers-requires-send-S : goal.run_workers-requires-send-S
run_workers-requires-send-S g c κs within = search (locked_send, lists) depth 40 fits 20000
