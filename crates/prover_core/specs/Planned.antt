-- The plan that is made of what an update will do (this project's own).
use Rattle.std.specs.Prelude.{ℕ, map, reverse}
use Rattle.exec_rules.specs.declared.version.Version.{Version}
use Rattle.exec_assign.specs.Told.{told_node}
use Rattle.update_plans.specs.declared.steps.Steps.{Steps}
use Rattle.prover_core.specs.Plans.{PlanState}

-- the plan that makes this version by these steps
abbrev pub plan_with : ℕ → Version → Steps → PlanState
plan_with id version s = record {
  version = id;
  nodes = version.nodes;
  blobs = version.blobs;
  assignment = record {
    assigned = version.assigned;
    homes = map (λ fresh. fresh.known.home) (reverse s.fresh.items);
    next = s.next;
  };
  tasks = map (λ fresh. fresh.task) (reverse s.fresh.items);
  dropped = s.dropped.items;
  sights = s.sights.items;
  told = map told_node s.told.items;
}

-- the plan of these steps
abbrev pub plan_of : ℕ → Steps → PlanState
plan_of id s = plan_with id s.version s
