use Rattle.std.proofs.Common.{arith}
use Rattle.reply_outbox.proofs.Totals.{at_most}
use Rattle.reply_outbox.proofs.outbox.Outbox.add.Goals as goal

pub overflow_add-self : goal.overflow_add-self
overflow_add-self g c =
    let waiting = c.self.inside.waiting in
    let all = at_most waiting.items in let counted = c.self.invariant.3 in
    let many = waiting.ok in let few = waiting.small in
    let reply = c.in-Some.reply.ok in let short = c.in-Some.reply.small in let long = c.len.ensures in
    omega arith
