use Rattle.std.proofs.Common.{◌≡◌, ◌++◌, drop}
use Rattle.version_losses.specs.Leaving.{from}
use Rattle.version_losses.proofs.walk.add_from.Given as goal

abbrev pub invariant-executions : goal.invariant-executions
invariant-executions l = l.execs.items ++ from l.next (drop l.exec-index l.lost) ≡ l.fn.execs.items ++ from l.next l.lost
