-- The greatest so far, and what is left, make up the greatest.
use Rattle.std.proofs.Common.{◌≡◌, drop, flat_map}
use Rattle.core_rules.specs.Assigned.{executions_of}
use Rattle.core_rules.specs.Doc.{greatest}
use Rattle.made_document.specs.Summary.{greatest_execution}
use Rattle.made_document.proofs.executions.greatest_execution.Given as goal

abbrev pub invariant-versions : goal.invariant-versions
invariant-versions l = greatest l.found (flat_map (λ one. executions_of one.version) (drop l.one-index l.live)) ≡ greatest_execution l.fn.live
