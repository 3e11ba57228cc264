-- No number stands behind the key.
use Rattle.std.proofs.Common.{decimal, sym, ◌∙◌, arith}
use Rattle.std.proofs.lemmas.List.{append_cancel_left}
use Rattle.reply_messages.proofs.Cuts.{one_cut}
use Rattle.reply_messages.proofs.ReadNumbers.{decimal_lacks}
use Rattle.reply_messages.proofs.tag.offset_after.Goals as goal

pub returns-in_default-number_at : goal.returns-in_default-number_at
returns-in_default-number_at c = λ n rest wide begins e.
    let same = one_cut 6 c.cut.result.0.now (decimal n) c.cut.result.1.now rest c.cut.ensures.before (decimal_lacks 6 n (omega arith) wide) c.cut.ensures.behind begins
    (sym c.cut.ensures.whole ∙ append_cancel_left c.args.key.now _ _ (sym c.in-Some.ensures ∙ e)) in
    c.in_default-number_at.ensures n wide (sym same.0)
