use Rattle.std.proofs.Common.{sym, ◌∙◌}
use Rattle.shared_map.proofs.Range.{stepped}
use Rattle.shared_map.proofs.entries.EntriesIterator.next.Goals as goal

pub returns-clause-steps : goal.returns-clause-steps
returns-clause-steps g c =
    sym c.self.view_is
    ∙ stepped c.self.inside.pairs.now c.self.inside.from c.self.inside.to c.in-Some.field-0.now c.if-self.false c.self.invariant c.in-Some.ensures
