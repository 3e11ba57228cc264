use Rattle.std.proofs.Common.{◌≡◌, drop}
use Rattle.doc_nodes.specs.Imports.{order}
use Rattle.exec_rules.specs.Assigning.{Work, assign_all, assigned_all}
use Rattle.exec_assign.specs.Work.{IsWork}
use Rattle.exec_assign.proofs.update.Update.assign.Given as goal

abbrev pub invariant-places : goal.invariant-places
invariant-places g l = (work : Work)
    × IsWork l.self l.progress.all.items l.progress.homes.items l.progress.next l.progress.standing.items work
    × (assign_all l.self (drop l.place-index (order l.self.nodes)) work ≡ assigned_all l.self l.next)
