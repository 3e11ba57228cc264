use Rattle.std.proofs.Common.{◌≡◌, reverse, length}
use Rattle.nj_syntax.specs.Reduced.{closed_operand}
use Rattle.nj_syntax.proofs.reduce.closed.Given as goal

abbrev pub invariant-up : goal.invariant-up
invariant-up l = closed_operand (reverse l.pending) l.operand ≡ closed_operand
    (reverse l.fn.pending) l.fn.operand

abbrev pub decreases-up : goal.decreases-up
decreases-up l = length l.pending
