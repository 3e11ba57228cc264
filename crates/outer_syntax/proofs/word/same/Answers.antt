use Rattle.std.proofs.Common.{sym}
use Rattle.outer_syntax.proofs.WordLemmas.{same-lengths}
use Rattle.outer_syntax.proofs.word.same.Goals as goal

pub returns-then-word-other : goal.returns-then-word-other
returns-then-word-other c = sym (same-lengths c.args.word.now c.args.other.now (c.if-word-other.true))
