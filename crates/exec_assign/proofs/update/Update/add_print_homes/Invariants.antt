use Rattle.std.proofs.Common.{◌≡◌, ◌++◌, drop}
use Rattle.exec_rules.specs.Homes.{print_homes}
use Rattle.exec_assign.proofs.update.Update.add_print_homes.Given as goal

abbrev pub invariant-prints : goal.invariant-prints
invariant-prints g l =
    l.homes.items ++ print_homes l.node l.self.blobs (drop l.place l.node.entries) (drop l.place l.evaluations) (drop l.place l.live)
    ≡ l.fn.homes.items ++ print_homes l.node l.self.blobs l.node.entries l.evaluations l.live
