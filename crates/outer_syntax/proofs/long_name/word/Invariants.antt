use Rattle.std.proofs.Common.{length, ◌-◌}
use Rattle.outer_syntax.proofs.LongLemmas.{IsJoined}
use Rattle.outer_syntax.proofs.long_name.word.Given as goal

abbrev pub invariant-loop-n : goal.invariant-loop-n
invariant-loop-n l = IsJoined l.text l.first l.at

abbrev pub decreases-loop-n : goal.decreases-loop-n
decreases-loop-n l = length l.text - l.at
