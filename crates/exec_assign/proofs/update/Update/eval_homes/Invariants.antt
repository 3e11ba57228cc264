use Rattle.std.proofs.Common.{◌≡◌, ◌++◌, drop}
use Rattle.exec_rules.specs.Homes.{eval_homes}
use Rattle.exec_assign.proofs.update.Update.eval_homes.Given as goal

abbrev pub invariant-fresh : goal.invariant-fresh
invariant-fresh g l = l.homes.items ++ drop l.place (eval_homes l.node l.self.blobs l.head l.evaluations)
    ≡ drop l.kept (eval_homes l.node l.self.blobs l.head l.evaluations)
