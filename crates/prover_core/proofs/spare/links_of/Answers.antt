use Rattle.std.proofs.Common.{◌+◌, List, length, ap, ◌∙◌}
use Rattle.std.proofs.lemmas.List.{take_all}
use Rattle.std.specs.Prelude.{flat_map}
use Rattle.update_plans.specs.declared.beginning.Fresh.{Fresh}
use Rattle.prover_core.proofs.PlanRoom.{inputs_of, links_next}
use Rattle.prover_core.proofs.spare.links_of.Goals as goal

pub executions-preserved : goal.executions-preserved
executions-preserved c =
    links_next c.args.fresh.now c.executions.one-index c.one-item.result c.executions.links c.in_ok-links.links c.executions-test.true
    c.one-item.is (c.in_ok-links.ensures.1 ∙ ap (λ n. c.executions.links + n) c.len.ensures) c.executions.invariant

pub returns : goal.returns
returns c =
    c.executions.invariant
    ∙ ap (λ (xs : List Fresh). length (flat_map inputs_of xs)) (take_all c.executions.one-index c.args.fresh.now c.executions-test.false)
