use Rattle.std.proofs.Common.{◌≡◌, ℕ, List, map, take}
use Rattle.exec_rules.specs.declared.row.Assigned.{Assigned}
use Rattle.exec_rules.specs.Keys.{aimed}
use Rattle.exec_assign.specs.Found.{AreAssigned}
use Rattle.exec_assign.proofs.keying.lasts.Given as goal

abbrev pub invariant-imports : goal.invariant-imports
invariant-imports l = (done : List (ℕ × Assigned)) → AreAssigned l.all done
    → l.lasts.items ≡ map (aimed l.nodes done) (take l.aim-index l.aims)
