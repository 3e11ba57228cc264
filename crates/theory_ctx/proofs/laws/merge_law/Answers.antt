use Rattle.theory_ctx.proofs.Merges.{fact_of-merged, IsSorted-merged}
use Rattle.theory_ctx.proofs.laws.merge_law.Goals as goal

pub returns-clause-first : goal.returns-clause-first
returns-clause-first c parts t n each = fact_of-merged t n parts each

pub returns-clause-sorted : goal.returns-clause-sorted
returns-clause-sorted c = IsSorted-merged
