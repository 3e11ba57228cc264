use Rattle.std.proofs.Common.{◌≡◌, ◌≤◌, vec_len, vec_capacity}
use Rattle.hist_lock.specs.Passes.{view, IsPassOf}
use Rattle.worker_loop.specs.Crew.{AreWorkers}
use Rattle.worker_loop.proofs.splitting.split_workers.Given as goal

-- a pass was split for each worker so far
abbrev pub invariant-splitting : goal.invariant-splitting
invariant-splitting g l =
    IsPassOf l.lock l.first × (view l.first ≡ record (view l.initial.first) { made = l.done }) × (vec_len l.passes ≡ l.done)
    × (vec_capacity l.initial.passes ≤ vec_capacity l.passes) × AreWorkers g.W.Work.says l.lock 1 l.passes.items
