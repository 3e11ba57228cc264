use Rattle.std.proofs.Common.{◌≢◌, ◌≤◌, ℕ}
use Rattle.core_tables.specs.Waiters.{Waits, HasAll, count_of, room_of}
use Rattle.core_tables.proofs.waiters.Waiters.clear.Given as goal

abbrev pub invariant-loop : goal.invariant-loop
invariant-loop l = HasAll l.self × (room_of l.fn.self ≤ room_of l.self)
    × ((e w : ℕ) → e ≢ l.input → Waits l.fn.self e w → Waits l.self e w)

abbrev pub decreases-loop : goal.decreases-loop
decreases-loop l = count_of l.self l.input
