use Rattle.std.proofs.Common.{length}
use Rattle.update_plans.proofs.BegunAre.{IsLeft}
use Rattle.update_plans.proofs.beginning.new_executions.Given as goal

abbrev pub invariant-homes : goal.invariant-homes
invariant-homes g l = IsLeft l.execs.rows l.next l.fn.homes l.rest l.all.items

abbrev pub decreases-homes : goal.decreases-homes
decreases-homes g l = length l.rest
