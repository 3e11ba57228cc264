use Rattle.std.proofs.Common.{◌≡◌, ◌++◌, drop}
use Rattle.version_losses.specs.Leaving.{below}
use Rattle.version_losses.proofs.walk.add_below.Given as goal

abbrev pub invariant-executions : goal.invariant-executions
invariant-executions l = l.execs.items ++ below l.next (drop l.exec-index l.more) ≡ l.fn.execs.items ++ below l.next l.more
