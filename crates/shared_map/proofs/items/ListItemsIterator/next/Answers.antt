use Rattle.std.proofs.Common.{sym, ◌∙◌}
use Rattle.shared_map.proofs.Range.{dropped}
use Rattle.shared_map.proofs.items.ListItemsIterator.next.Goals as goal

pub returns-clause-steps : goal.returns-clause-steps
returns-clause-steps g c =
    sym c.self.view_is
    ∙ dropped c.self.inside.tree.now c.self.inside.from c.len.result c.in-Some.item.now c.if-self-len.false c.len.ensures c.in-Some.ensures
