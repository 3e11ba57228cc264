-- What workers and the writer take with them, and bring back, may go to another thread.
use denote.Param.Send.{sendable}
use Rattle.std.proofs.Crossing as kit
use Rattle.thread_serve.proofs.Crossing.{locked_send}
use Rattle.thread_serve.proofs.CrossingLock.{lock_sync, pass_send, crew_sync, stopped_send}
use Rattle.thread_serve.proofs.together.run_together.Goals as goal

pub join-requires-send-F : goal.join-requires-send-F
join-requires-send-F g c κs within =
    let bounds = c.type_bounds in
    let state = bounds.send-L-State in
    let states = bounds.sync-L-State in
    let past = bounds.send-P in
    let lang = bounds.sync-L in
    let threads = bounds.sync-R in
    let gate = bounds.sync-G in
    let sink = bounds.send-K in
    search (locked_send, lock_sync, pass_send, crew_sync, kit.crosses, sendable) depth 40 fits 20000

pub join-requires-send-A : goal.join-requires-send-A
join-requires-send-A g c κs within =
    let bounds = c.type_bounds in
    let state = bounds.send-L-State in
    let states = bounds.sync-L-State in
    let past = bounds.send-P in
    let sink = bounds.send-K in
    search (locked_send, stopped_send, sendable) depth 40
