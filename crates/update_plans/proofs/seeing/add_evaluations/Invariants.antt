use Rattle.std.proofs.Common.{◌≡◌, ◌++◌, map, take}
use Rattle.update_plans.specs.Sights.{seen_of}
use Rattle.update_plans.proofs.seeing.add_evaluations.Given as goal

abbrev pub invariant-rows : goal.invariant-rows
invariant-rows l = l.all.items ≡ l.fn.all.items ++ map seen_of (take l.row-index l.rows)
