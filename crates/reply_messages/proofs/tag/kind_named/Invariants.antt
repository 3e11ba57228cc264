-- Among the kinds that are left the same is found as among all.
use Rattle.std.proofs.Common.{◌≡◌, drop, find, bytes_eq}
use Rattle.report_markup.specs.Words.{kind_word}
use Rattle.reply_messages.specs.Tags.{report_kinds}
use Rattle.reply_messages.proofs.tag.kind_named.Given as goal

abbrev pub invariant-kinds : goal.invariant-kinds
invariant-kinds l = find (λ kind. bytes_eq (kind_word kind) l.name) (drop l.kind-index l.kinds)
    ≡ find (λ kind. bytes_eq (kind_word kind) l.name) report_kinds
