use Rattle.std.proofs.Common.{◌≡◌, take}
use Rattle.editor_buffer.proofs.headers.same_pairs.Given as goal

abbrev pub invariant-loop-i : goal.invariant-loop-i
invariant-loop-i l = take l.i l.pairs ≡ take l.i l.others
