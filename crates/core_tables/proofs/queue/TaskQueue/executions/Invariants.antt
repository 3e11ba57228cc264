use Rattle.std.proofs.Common.{◌≡◌, ℕ, map}
use Rattle.std.specs.Map.Iter.{deref}
use Rattle.pide_base.specs.Ids.{IsId}
use Rattle.text_words.specs.Members.{has}
use Rattle.core_tables.proofs.queue.TaskQueue.executions.Given as goal

abbrev pub invariant-loop-number : goal.invariant-loop-number
invariant-loop-number l =
    (goal.iterator-loop-number).can_next l.number-iterator
    × (goal.iterator-loop-number).is_finite l.number-iterator
    × ((e : ℕ) → IsId e → has l.found.items e ≡ has (map deref l.yielded) e)
