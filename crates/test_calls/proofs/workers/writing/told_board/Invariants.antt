use Rattle.std.proofs.Common.{◌≡◌, []}
use Rattle.hist_lock.specs.Callers.{child, first_view}
use Rattle.hist_lock.specs.Passes.{view, IsPassOf}
use Rattle.test_calls.proofs.workers.writing.told_board.Given as goal

-- the first caller goes on, and the other's pass is as it was made
abbrev pub invariant-telling : goal.invariant-telling
invariant-telling g l =
    IsPassOf l.lock l.first × ((view l.first).caller ≡ 0) × IsPassOf l.lock l.other
    × (view l.other ≡ child (first_view []))
