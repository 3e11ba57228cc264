use Rattle.std.proofs.Common.{length, sym, ap, ◌∙◌}
use Rattle.outer_syntax.proofs.WordLemmas.{same-lengths}
use Rattle.outer_syntax.proofs.word.spells.Goals as goal

pub returns-then-word-bytes : goal.returns-then-word-bytes
returns-then-word-bytes c = sym (same-lengths c.args.word.now c.args.name.now (λ e. c.if-word-bytes.true (e ∙ sym (ap length c.as_bytes-bytes.ensures.value))))
