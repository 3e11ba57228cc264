use Rattle.std.proofs.Common.{◌≡◌, vec_len}
use Rattle.hist_lock.specs.Passes.{view, IsPassOf}
use Rattle.worker_loop.specs.Crew.{AreWorkers}
use Rattle.test_calls.proofs.workers.work_through.Given as goal

-- a pass is split for each worker so far
abbrev pub invariant-splitting : goal.invariant-splitting
invariant-splitting g l =
    IsPassOf l.lock l.first × ((view l.first).caller ≡ 0) × ((view l.first).made ≡ vec_len l.passes)
    × AreWorkers (λ m. m.what) l.lock 1 l.passes.items × (vec_len l.passes ≡ l.done)
