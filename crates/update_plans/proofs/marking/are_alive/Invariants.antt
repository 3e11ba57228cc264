use Rattle.std.proofs.Common.{◌≡◌, drop}
use Rattle.std.specs.List.{list_all}
use Rattle.update_plans.specs.Alive.{is_alive}
use Rattle.update_plans.proofs.marking.are_alive.Given as goal

abbrev pub invariant-rows : goal.invariant-rows
invariant-rows g l = list_all (is_alive l.execs.rows) (drop l.row-index l.rows) ≡ list_all (is_alive l.execs.rows) l.rows
