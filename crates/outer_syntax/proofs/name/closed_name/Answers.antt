use Rattle.std.proofs.Common.{sym, ◌∙◌, arith}
use Rattle.std.proofs.lemmas.List.{get_or_read}
use Rattle.outer_syntax.proofs.NameLemmas.{closed-some, closed-stop, closed-none}
use Rattle.outer_syntax.proofs.name.closed_name.Goals as goal
use Rattle.outer_syntax.proofs.name.closed_name.Goals.{else-n-text-via-then-n-text+else-text-n-eq62, else-n-text-via-else-n-text}

pub returns-then-text-n-eq62 : goal.returns-then-text-n-eq62
returns-then-text-n-eq62 c = closed-some c.in-Some.ensures c.if-n-text.true (sym (get_or_read c.args.text.now _ _ c.if-n-text.true c.index-text-n.is 0) ∙ c.if-text-n-eq62.true)

pub returns-else-n-text : goal.returns-else-n-text
returns-else-n-text c =
    closed-stop c.in-Some.ensures (λ inside closes. elim c.else-n-text.branch [ else-n-text-via-then-n-text+else-text-n-eq62 w ↦ w.if-text-n-eq62.false (get_or_read c.args.text.now _ _ w.if-n-text.true w.index-text-n.is 0 ∙ closes) | else-n-text-via-else-n-text w ↦ omega arith ])

pub returns-in-None : goal.returns-in-None
returns-in-None c = closed-none c.args.text.now c.in-None.ensures
