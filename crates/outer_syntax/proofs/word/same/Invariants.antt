use Rattle.std.proofs.Common.{length, ◌≡◌, drop}
use Rattle.outer_syntax.specs.Words.{same}
use Rattle.outer_syntax.proofs.word.same.Given as goal

abbrev pub invariant-loop-i : goal.invariant-loop-i
invariant-loop-i l = (length l.word ≡ length l.other) × (same (drop l.i l.word) (drop l.i l.other) ≡ same l.word l.other)
