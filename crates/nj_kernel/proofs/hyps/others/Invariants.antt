use Rattle.std.proofs.Common.{◌≡◌, ◌++◌, map, drop}
use Rattle.nj_formula.specs.Meaning.{meaning}
use Rattle.nj_kernel.proofs.RisesLemmas.{removed}
use Rattle.nj_kernel.proofs.hyps.others.Given as goal

abbrev pub invariant-loop-member : goal.invariant-loop-member
invariant-loop-member l =
    map meaning l.kept ++ removed (meaning l.dropped) (map meaning (drop l.member-index l.s))
    ≡ removed (meaning l.dropped) (map meaning l.s)
