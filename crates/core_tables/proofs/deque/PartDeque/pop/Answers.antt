use Rattle.std.proofs.Common.{rules, arith}
use Rattle.std.proofs.lemmas.List.{same_lists, places}
use Rattle.core_tables.proofs.deque.PartDeque.pop.Goals as goal

pub returns-clause-some : goal.returns-clause-some
returns-clause-some c = same_lists _ _ (search (rules, places)) (λ k d h. grind (arith, places))
