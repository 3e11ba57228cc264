use Rattle.std.proofs.Common.{◌≡◌, false, vec_len}
use mathlib.Core.List.{IsPrefix}
use Rattle.hist_lock.specs.Callers.{HasJoinedUpTo, KeepsJoined}
use Rattle.hist_lock.specs.Passes.{view, IsPassOf}
use Rattle.worker_loop.specs.Crew.{AreBack, HasGathered, HoldNothing}
use Rattle.worker_loop.proofs.gathering.gather.Given as goal

-- the workers after those that are left were joined
abbrev pub invariant-gathering : goal.invariant-gathering
invariant-gathering g l =
    IsPassOf l.lock l.first × IsPrefix (view l.initial.first).seen (view l.first).seen × HasGathered (view l.initial.first) (view l.first)
    × KeepsJoined (view l.initial.first) (view l.first) × AreBack g.W.Work.says l.lock 1 l.shifts.items
    × HasJoinedUpTo (vec_len l.shifts) (vec_len l.initial.shifts) (view l.first)
    × (l.is_short ≡ false → HoldNothing g.W.Work.says (vec_len l.shifts) (vec_len l.initial.shifts) (view l.first))

abbrev pub decreases-gathering : goal.decreases-gathering
decreases-gathering g l = vec_len l.shifts
