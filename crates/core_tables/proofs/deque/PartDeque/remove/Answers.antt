use Rattle.std.proofs.Common.{rules, arith}
use Rattle.std.proofs.lemmas.List.{same_lists, places}
use Rattle.core_tables.proofs.deque.PartDeque.remove.Goals as goal

pub returns-then-at-self-clause-parts : goal.returns-then-at-self-clause-parts
returns-then-at-self-clause-parts c = same_lists _ _ (search (rules, places)) (λ k d h. grind (arith, places))

pub returns-else-at-self-clause-parts : goal.returns-else-at-self-clause-parts
returns-else-at-self-clause-parts c = same_lists _ _ (search (rules, places)) (λ k d h. grind (arith, places))
