use Rattle.std.proofs.Common.{◌≡◌, ◌++◌, map, drop}
use Rattle.exec_rules.specs.Listed.{listed}
use Rattle.exec_assign.specs.Telling.{update_version}
use Rattle.exec_assign.specs.Told.{told_node}
use Rattle.exec_assign.proofs.ListLemmas.{told_of}
use Rattle.exec_assign.proofs.update.Update.listed.Given as goal

abbrev pub invariant-nodes : goal.invariant-nodes
invariant-nodes g l = map told_node l.all.items ++ told_of l.self l.made.assigned (drop l.place l.self.nodes)
    ≡ listed l.self.tip (update_version l.self l.made.assigned)
