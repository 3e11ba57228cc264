use Rattle.std.proofs.Common.{rules, arith}
use Rattle.std.proofs.lemmas.List.{same_lists, places}
use Rattle.core_tables.proofs.deque.PartDeque.insert_from_start.Goals as goal

pub returns-clause-parts : goal.returns-clause-parts
returns-clause-parts c = same_lists _ _ (search (rules, places)) (λ k d h. grind (arith, places))
