use Rattle.std.proofs.Common.{take}
use Rattle.std.specs.Prelude.{filter_map}
use Rattle.core_rules.specs.Parts.{last_evaluation}
use Rattle.update_plans.specs.Begun.{AddsUnfinished}
use Rattle.update_plans.proofs.sources.add_all.Given as goal

abbrev pub invariant-imports : goal.invariant-imports
invariant-imports g l = AddsUnfinished l.execs.rows
    (filter_map last_evaluation (take l.last-index l.lasts)) l.fn.inputs l.inputs
