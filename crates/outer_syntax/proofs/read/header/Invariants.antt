use Rattle.std.proofs.Common.{◌-◌, ◌≤◌, length}
use Rattle.outer_syntax.proofs.ReadLemmas.{IsRead}
use Rattle.outer_syntax.proofs.read.header.Given as goal

abbrev pub invariant-loop-token : goal.invariant-loop-token
invariant-loop-token l = (l.place ≤ length l.text) × IsRead l.text l.place l.reading

abbrev pub decreases-loop-token : goal.decreases-loop-token
decreases-loop-token l = length l.text - l.place
