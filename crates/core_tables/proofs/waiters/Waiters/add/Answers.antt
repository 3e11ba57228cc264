use Rattle.std.proofs.Common.{rules}
use Rattle.core_tables.proofs.Links.{few}
use Rattle.core_tables.proofs.waiters.Waiters.add.Goals as goal

pub unreachable-requires : goal.unreachable-requires
unreachable-requires c =
    let within = few c.args.input _ _ (c.requires.all c.args.input) in
    search (rules, within)

pub overflow_add-number : goal.overflow_add-number
overflow_add-number c =
    let within = few c.args.input _ _ (c.requires.all c.args.input) in
    search (rules, within)
