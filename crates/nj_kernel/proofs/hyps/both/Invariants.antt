use Rattle.std.proofs.Common.{◌≡◌, ◌+◌, ◌++◌, length, map}
use Rattle.nj_formula.specs.Meaning.{meaning}
use Rattle.nj_kernel.proofs.JoinLemmas.{joined}
use Rattle.nj_kernel.proofs.hyps.both.Given as goal

abbrev pub invariant-loop-left : goal.invariant-loop-left
invariant-loop-left l =
    map meaning l.all ++ joined (map meaning l.left) (map meaning l.right)
    ≡ joined (map meaning l.fn.s) (map meaning l.fn.t)

abbrev pub decreases-loop-left : goal.decreases-loop-left
decreases-loop-left l = length l.left + length l.right
