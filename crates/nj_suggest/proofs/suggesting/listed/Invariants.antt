use Rattle.std.proofs.Common.{◌≡◌, ◌++◌, length}
use Rattle.nj_suggest.proofs.suggesting.listed.Given as goal

abbrev pub invariant-facts : goal.invariant-facts
invariant-facts l = l.rest ++ l.list ≡ l.fn.facts

abbrev pub decreases-facts : goal.decreases-facts
decreases-facts l = length l.rest
