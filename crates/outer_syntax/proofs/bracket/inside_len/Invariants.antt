use Rattle.std.proofs.Common.{length, ◌-◌, ◌<◌, ◌≤◌, ◌+◌}
use Rattle.outer_syntax.proofs.LeftLemmas.{IsLeft}
use Rattle.outer_syntax.proofs.bracket.inside_len.Given as goal

abbrev pub invariant-loop-at : goal.invariant-loop-at
invariant-loop-at l = record { positive : 0 < l.depth; small : l.depth ≤ l.at + 1; left : IsLeft l.bracket l.inside l.depth l.at }

abbrev pub decreases-loop-at : goal.decreases-loop-at
decreases-loop-at l = length l.inside - l.at
