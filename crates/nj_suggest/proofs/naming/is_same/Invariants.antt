use Rattle.std.proofs.Common.{◌≡◌, length}
use Rattle.outer_syntax.specs.Words.{same}
use Rattle.nj_suggest.proofs.naming.is_same.Given as goal

abbrev pub invariant-scalars : goal.invariant-scalars
invariant-scalars l = same l.front l.back ≡ same l.name l.word

abbrev pub decreases-scalars : goal.decreases-scalars
decreases-scalars l = length l.front
