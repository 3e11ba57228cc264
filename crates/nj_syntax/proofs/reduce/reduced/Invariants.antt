use Rattle.std.proofs.Common.{◌≡◌, reverse, length}
use Rattle.nj_syntax.specs.Reduced.{reduced}
use Rattle.nj_syntax.proofs.reduce.reduced.Given as goal

abbrev pub invariant-up : goal.invariant-up
invariant-up l = reduced l.op (reverse l.pending) l.operand ≡ reduced l.fn.op (reverse l.fn.pending) l.fn.operand

abbrev pub decreases-up : goal.decreases-up
decreases-up l = length l.pending
