use Rattle.std.proofs.Common.{◌≡◌, ◌++◌, drop}
use Rattle.update_plans.specs.Rows.{beside}
use Rattle.update_plans.specs.Rows.{lost_of}
use Rattle.update_plans.proofs.dropping.add_lost.Given as goal

abbrev pub invariant-rows : goal.invariant-rows
invariant-rows l = l.all.items ++ beside lost_of (drop l.place l.rows) (drop l.place l.now) ≡ l.fn.all.items ++ beside lost_of l.rows l.now
