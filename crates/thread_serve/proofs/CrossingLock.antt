-- A lock may be looked at by several threads, and passes, and what workers and the writer bring
-- back, may go to another, where the state and the sink may.
use denote.Ref.{NamedLft}
use denote.RattleType.{RattleType}
use denote.Param.Send.{IsSend, IsSync}
use Rattle.atomic_table.proofs.send_lease.SendLease.TheSendSync as leases
use Rattle.atomic_table.proofs.shared.Seat.TheSendSync as seats
use Rattle.atomic_table.proofs.shared.Shared.TheSendSync as tables
use Rattle.hist_lock.specs.contracts.pass.Pass as pass
use Rattle.hist_lock.specs.contracts.shared.Shared as lock
use Rattle.hist_lock.specs.declared.state.State as state
use Rattle.thread_serve.specs.contracts.crew.Crew as crew
use Rattle.worker_loop.specs.contracts.worker.Shift as shift
use Rattle.worker_loop.specs.contracts.writer.Wrote as wrote
use Rattle.thread_serve.specs.contracts.working.Stopped as stopped
use Rattle.thread_serve.proofs.CrossingLists.{lists}

module _ (S E : RattleType) (g : state.Ghosts S.Denot E.Denot) where
  pub lock_sync : IsSend S → IsSync (lock.the_row S E g)
  lock_sync s = search (tables.the_sync, leases.the_sync, lists) depth 40

  pub pass_send : IsSend S → IsSend (pass.the_row S E g)
  pass_send s = search (seats.the_send, lists) depth 40

  pub shift_send : IsSend S → IsSend (shift.the_row S E g)
  shift_send s = search (seats.the_send, lists) depth 40

  module _ (K : RattleType) where
    wrote_send : IsSend S → IsSend K → IsSend (wrote.the_field S K E g).row
    wrote_send s k = search (seats.the_send, lists) depth 40

    pub stopped_send : IsSend S → IsSend K → IsSend (stopped.the_row S K E g)
    stopped_send s k = search (pass_send, shift_send, wrote_send, lists) depth 40

pub crew_sync : (a : NamedLft) (L : RattleType) → IsSync L → IsSync (crew.the_row a L)
crew_sync a L y = search lists depth 40
