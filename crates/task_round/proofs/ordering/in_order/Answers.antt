-- The sort's closure gives the task.
use Rattle.std.proofs.Common.{rules}
use Rattle.std.proofs.lemmas.List.Sorted.{IsNonDecreasingBy-from_sort_by_key}
use Rattle.task_round.proofs.ordering.in_order.Goals as goal

pub returns-clause-rises : goal.returns-clause-rises
returns-clause-rises g c =
    IsNonDecreasingBy-from_sort_by_key (λ d. d.task) c.sort_unstable_by_key.new.self.items c.sort_unstable_by_key.ensures.sorted
    (λ a r q k. search rules)
