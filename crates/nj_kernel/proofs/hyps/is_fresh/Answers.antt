-- At the end nothing is left in which the name could be free.
use Rattle.std.proofs.Common.{arith, refl}
use Rattle.nj_kernel.proofs.SetsLemmas.{fresh_in_none}
use Rattle.nj_kernel.proofs.hyps.is_fresh.Goals as goal

pub returns : goal.returns
returns c =
    (λ yes. c.loop-member.invariant.1 (fresh_in_none c.args.name.now c.args.formulas.now c.loop-member.member-index (omega arith)), λ fresh. refl)
