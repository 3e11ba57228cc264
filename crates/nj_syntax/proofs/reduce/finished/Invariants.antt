use Rattle.std.proofs.Common.{◌≡◌, reverse, length}
use Rattle.nj_syntax.specs.Reduced.{finished}
use Rattle.nj_syntax.proofs.reduce.finished.Given as goal

abbrev pub invariant-up : goal.invariant-up
invariant-up l = finished (reverse l.pending) l.operand ≡ finished (reverse l.fn.pending) l.fn.operand

abbrev pub decreases-up : goal.decreases-up
decreases-up l = length l.pending
