-- The greatest so far, and what is left, make up the greatest.
use Rattle.std.proofs.Common.{◌≡◌, drop, flat_map}
use Rattle.exec_rules.specs.Listed.{executions}
use Rattle.core_rules.specs.Assigned.{executions_of}
use Rattle.core_rules.specs.Doc.{greatest}
use Rattle.made_document.proofs.executions.greatest_assigned.Given as goal

abbrev pub invariant-nodes : goal.invariant-nodes
invariant-nodes l = greatest l.found (flat_map executions (flat_map (λ assigned. assigned.rows) (drop l.assigned-index l.assigned-items)))
    ≡ greatest l.fn.most (executions_of l.fn.version)
