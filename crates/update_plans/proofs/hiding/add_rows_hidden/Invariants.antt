use Rattle.std.proofs.Common.{◌≡◌, ◌++◌, drop}
use Rattle.update_plans.specs.Rows.{beside}
use Rattle.update_plans.specs.Sights.{hidden_of}
use Rattle.update_plans.proofs.hiding.add_rows_hidden.Given as goal

abbrev pub invariant-rows : goal.invariant-rows
invariant-rows l = l.all.items ++ beside hidden_of (drop l.place l.rows) (drop l.place l.now) ≡ l.fn.all.items ++ beside hidden_of l.rows l.now
