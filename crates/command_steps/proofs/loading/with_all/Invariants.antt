use Rattle.std.proofs.Common.{◌≡◌, length}
use Rattle.isar_rules.specs.Loads.{with_all}
use Rattle.command_steps.proofs.loading.with_all.Given as goal

abbrev pub invariant-facts : goal.invariant-facts
invariant-facts l = with_all l.more l.rest ≡ with_all l.fn.theory l.fn.facts

abbrev pub decreases-facts : goal.decreases-facts
decreases-facts l = length l.rest
