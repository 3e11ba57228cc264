use Rattle.std.proofs.Common.{◌≡◌, length, take}
use Rattle.std.specs.Prelude.{flat_map}
use Rattle.update_plans.specs.declared.beginning.Fresh.{Fresh}
use Rattle.prover_core.proofs.spare.links_of.Given as goal

abbrev pub invariant-executions : goal.invariant-executions
invariant-executions l = l.links ≡ length (flat_map (λ (one : Fresh). one.task.inputs) (take l.one-index l.fresh))
