-- A pop keeps the rule, and tells whoever has all parts that all is taken.
use Rattle.std.proofs.Common.{◌<◌, ◌∙◌, sym, subst}
use Rattle.task_round.proofs.Moves.{takes, empties, never_pops}
use Rattle.task_round.proofs.owner.pop_all.Goals as goal

pub pop_as-requires-clause-fifo : goal.pop_as-requires-clause-fifo
pop_as-requires-clause-fifo g c = λ _. takes _ _ (subst (λ n. 0 < n) (sym c.popping.invariant.3) c.requires.part)

pub pop_as-requires-clause-lifo : goal.pop_as-requires-clause-lifo
pop_as-requires-clause-lifo g c = never_pops _ _ _ (c.popping.invariant.2.1 ∙ c.requires.fifo)

pub pop_as-requires-clause-empty : goal.pop_as-requires-clause-empty
pop_as-requires-clause-empty g c = empties _ _
