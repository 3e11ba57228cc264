use Rattle.std.proofs.Common.{◌≡◌, ◌⊎◌, ◌+◌, ◌≤◌, ℕ, true, length}
use Rattle.text_words.specs.Members.{has}
use Rattle.core_tables.specs.Waiters.{Waits, HasAll, room_of}
use Rattle.core_tables.proofs.inputs.Inputs.link.Given as goal

abbrev pub invariant-loop-input : goal.invariant-loop-input
invariant-loop-input l =
    (goal.iterator-loop-input).can_next l.input-iterator
    × (goal.iterator-loop-input).is_finite l.input-iterator
    × ((e : ℕ) → has l.self e ≡ true → (has l.input-iterator e ≡ true) ⊎ Waits l.waiters e l.waiter)
    × ((e w : ℕ) → Waits l.fn.waiters e w → Waits l.waiters e w)
    × HasAll l.waiters
    × (length l.input-iterator ≤ room_of l.waiters)
    × (room_of l.fn.waiters + length l.input-iterator ≤ room_of l.waiters + length l.self)
