use Rattle.std.proofs.Common.{rules, arith}
use Rattle.std.proofs.lemmas.List.{same_lists, places}
use Rattle.core_tables.proofs.deque.close_up.Goals as goal

pub returns-clause-moved : goal.returns-clause-moved
returns-clause-moved c = same_lists _ _ (search (rules, places)) (λ k d h. grind (arith, places))
