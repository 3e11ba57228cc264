use Rattle.std.proofs.Common.{◌≡◌, map, take}
use Rattle.exec_rules.specs.Rows.{live_print}
use Rattle.exec_assign.proofs.update.Update.live_prints.Given as goal

abbrev pub invariant-rows : goal.invariant-rows
invariant-rows g l = l.live.items ≡ map (λ row. live_print l.self.cancelled row.print) (take l.row-index (take l.kept l.rows))
