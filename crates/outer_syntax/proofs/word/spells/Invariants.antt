use Rattle.std.proofs.Common.{length, ◌≡◌, drop}
use Rattle.outer_syntax.specs.Words.{same}
use Rattle.outer_syntax.proofs.word.spells.Given as goal

abbrev pub invariant-loop-i : goal.invariant-loop-i
invariant-loop-i l = (length l.word ≡ length l.bytes) × (same (drop l.i l.word) (drop l.i l.bytes) ≡ same l.word l.bytes)
