use Rattle.std.proofs.Common.{◌-◌, ◌≡◌, ◌<◌, ◌≤◌, ℕ, true, false, length, get_or}
use Rattle.pide_base.specs.declared.part.Part.{Part}
use Rattle.core_tables.specs.Order.{goes_before}
use Rattle.core_tables.specs.Ready.{priority_of}
use Rattle.core_tables.specs.Kept.{looked}
use Rattle.core_tables.proofs.queue.place.Given as goal

abbrev pub invariant-loop-low : goal.invariant-loop-low
invariant-loop-low l = (l.low ≤ l.high) × (l.high ≤ length l.parts)
    × ((j : ℕ) (d : Part) → j < l.low
    → let f = (get_or l.parts j d).exec in goes_before l.priority l.exec (priority_of (looked l.tasks) f) f ≡ true)
    × ((j : ℕ) (d : Part) → l.high ≤ j → j < length l.parts
    → let f = (get_or l.parts j d).exec in goes_before l.priority l.exec (priority_of (looked l.tasks) f) f ≡ false)

abbrev pub decreases-loop-low : goal.decreases-loop-low
decreases-loop-low l = l.high - l.low
