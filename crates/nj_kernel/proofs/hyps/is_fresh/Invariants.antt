use Rattle.std.proofs.Common.{◌↔◌, map, drop}
use Rattle.nj_formula.specs.Meaning.{meaning}
use Rattle.nj_kernel.specs.Sets.{members, IsFreshIn}
use Rattle.nj_kernel.proofs.hyps.is_fresh.Given as goal

abbrev pub invariant-loop-member : goal.invariant-loop-member
invariant-loop-member l =
    IsFreshIn l.name (members (map meaning l.formulas))
    ↔ IsFreshIn l.name (members (map meaning (drop l.member-index l.formulas)))
