use Rattle.std.proofs.Common.{◌≡◌, List}
use Rattle.hist_lock.specs.Known.{IsSameCaller}
use Rattle.hist_lock.specs.Passes.{view, IsPassOf}
use Rattle.worker_loop.specs.Stays.{SeesOn}
use Rattle.worker_loop.proofs.helping.help.Given as goal

-- nothing was made, and the job is one of the same part that fits wherever the first one did
abbrev pub invariant-runs : goal.invariant-runs
invariant-runs g l =
    (goal.iterator-runs g).can_next l.iterator' × (goal.iterator-runs g).is_finite l.iterator'
    × IsPassOf l.lock l.pass × IsSameCaller (view l.initial.pass) (view l.pass) × SeesOn (view l.initial.pass) (view l.pass)
    × (g.W.Work.part_of l.job ≡ g.W.Work.part_of l.initial.job)
    × ((log : List g.row.S-Entry.Denot) → g.W.Work.fits log l.initial.job → g.W.Work.fits log l.job)
