use Rattle.std.proofs.Common.{◌≡◌, ◌++◌, ◌-◌, length, drop}
use Rattle.outer_syntax.specs.Contents.{replaced_from}
use Rattle.outer_syntax.proofs.contents.replaced.Given as goal

abbrev pub invariant-loop-at : goal.invariant-loop-at
invariant-loop-at l = l.content.items ++ replaced_from 0 (drop l.at l.inside) ≡ replaced_from 0 l.inside

abbrev pub decreases-loop-at : goal.decreases-loop-at
decreases-loop-at l = length l.inside - l.at
