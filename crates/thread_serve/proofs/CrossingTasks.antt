-- The queue, and tables of executions and of versions, may go to another thread where what they
-- hold may.
use denote.RattleType.{RattleType}
use denote.Param.Send.{IsSend, IsSync}
use Rattle.core_tables.specs.contracts.deque.PartDeque as deque
use Rattle.core_tables.specs.contracts.waiters.Waiters as waiters
use Rattle.core_tables.specs.contracts.task.Standing as standing
use Rattle.core_tables.specs.contracts.queue.TaskQueue as queue
use Rattle.core_tables.specs.contracts.execution.Progress as progress
use Rattle.core_tables.specs.contracts.execution.Execution as execution
use Rattle.core_tables.specs.contracts.execs.Execs as execs
use Rattle.core_tables.specs.contracts.version.Version as version
use Rattle.core_tables.specs.contracts.versions.Versions as versions
use Rattle.thread_serve.proofs.CrossingLists.{lists}

deque_send : IsSend deque.the_row
deque_send = search lists depth 40

waiters_send : IsSend waiters.the_field.row
waiters_send = search lists depth 40

standing_send : IsSend standing.the_row
standing_send = search lists depth 40

pub queue_send : IsSend queue.the_row
queue_send = search (deque_send, waiters_send, standing_send, lists) depth 40

module _ (T : RattleType) where
  progress_send : IsSend T → IsSend (progress.the_field T).row
  progress_send s = search lists depth 40

  execution_send : IsSend T → IsSend (execution.the_row T)
  execution_send s = search (progress_send, lists) depth 40

  pub execs_send : IsSend T → IsSend (execs.the_row T)
  execs_send s = search (execution_send, lists) depth 40

  version_send : IsSend T → IsSync T → IsSend (version.the_row T)
  version_send s y = search lists depth 40

  pub versions_send : IsSend T → IsSync T → IsSend (versions.the_row T)
  versions_send s y = search (version_send, lists) depth 40

pub ruleset tables = (queue_send, execs_send, versions_send)
