-- Jobs, and what comes of them, may go to another thread where the language's states may, and may
-- be looked at by several.
use denote.RattleType.{RattleType}
use denote.Param.Send.{IsSend, IsSync}
use Rattle.core_jobs.specs.contracts.input.Input as input
use Rattle.core_jobs.specs.contracts.job.Job as job
use Rattle.core_jobs.specs.contracts.done.Evaluated as evaluated
use Rattle.core_jobs.specs.contracts.done.Done as done
use Rattle.document_session.specs.session_replies_below.contracts.job.SessionJob as session_job
use Rattle.thread_serve.proofs.CrossingHomes.{heads}
use Rattle.thread_serve.proofs.CrossingLists.{lists}
use Rattle.thread_serve.proofs.CrossingStates.{imports_cross, reports}

module _ (S : RattleType) (s : IsSend S) (y : IsSync S) where
  input_send : IsSend (input.the_field S).row
  input_send = search (imports_cross, heads) depth 40

  job_send : IsSend (job.the_row S)
  job_send = search (input_send, heads) depth 40

  pub session_job_send : IsSend (session_job.the_row S)
  session_job_send = search (job_send, lists) depth 40

  evaluated_send : IsSend (evaluated.the_row S)
  evaluated_send = search lists depth 40

  pub done_send : IsSend (done.the_row S)
  done_send = search (evaluated_send, reports, lists) depth 40
