use Rattle.std.proofs.Common.{◌≡◌, take}
use Rattle.text_edits.proofs.change.first_difference.Given as goal

abbrev pub invariant-loop-k : goal.invariant-loop-k
invariant-loop-k l = take l.k l.scalars ≡ take l.k l.others
