use Rattle.std.proofs.Common.{◌≡◌, false}
use Rattle.std.specs.List.{All}
use Rattle.text_words.specs.Members.{has}
use Rattle.core_tables.proofs.queue.TaskQueue.is_awaited.Given as goal

abbrev pub invariant-loop-standing : goal.invariant-loop-standing
invariant-loop-standing l =
    (goal.iterator-loop-standing).can_next l.standing-iterator
    × (goal.iterator-loop-standing).is_finite l.standing-iterator
    × All (λ p. has p.1.now.inputs l.exec ≡ false) l.yielded
