-- Among the kinds that are left the same is found as among all.
use Rattle.std.proofs.Common.{◌≡◌, drop, find, bytes_eq}
use Rattle.reply_messages.specs.Kinds.{word, kinds}
use Rattle.reply_messages.proofs.kind.ReplyKind.named.Given as goal

abbrev pub invariant-kinds : goal.invariant-kinds
invariant-kinds l = find (λ kind. bytes_eq (word kind) l.name) (drop l.kind-index l.kinds)
    ≡ find (λ kind. bytes_eq (word kind) l.name) kinds
