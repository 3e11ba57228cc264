-- What workers take with them, and bring back, may go to another thread.
use denote.Param.Send.{sendable}
use Rattle.std.proofs.Crossing as kit
use Rattle.thread_serve.proofs.Crossing.{locked_send}
use Rattle.thread_serve.proofs.CrossingLock.{lock_sync, pass_send, shift_send, crew_sync}
use Rattle.thread_serve.proofs.working.work_and_write.Goals as goal

pub join-workers-requires-send-F : goal.join-workers-requires-send-F
join-workers-requires-send-F g c κs within =
    let bounds = c.type_bounds in
    let state = bounds.send-L-State in
    let states = bounds.sync-L-State in
    let past = bounds.send-P in
    let lang = bounds.sync-L in
    let threads = bounds.sync-R in
    let gate = bounds.sync-G in
    search (locked_send, lock_sync, pass_send, crew_sync, kit.crosses, sendable) depth 40 fits 20000

pub join-workers-requires-send-A : goal.join-workers-requires-send-A
join-workers-requires-send-A g c κs within =
    let bounds = c.type_bounds in
    let state = bounds.send-L-State in
    let states = bounds.sync-L-State in
    let past = bounds.send-P in
    search (locked_send, pass_send, shift_send, kit.crosses, sendable) depth 40 fits 20000
