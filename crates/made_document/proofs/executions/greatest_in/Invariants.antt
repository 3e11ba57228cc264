-- The greatest so far, and what is left, make up the greatest.
use Rattle.std.proofs.Common.{◌≡◌, drop, flat_map}
use Rattle.exec_rules.specs.Listed.{executions}
use Rattle.core_rules.specs.Doc.{greatest}
use Rattle.made_document.proofs.executions.greatest_in.Given as goal

abbrev pub invariant-rows : goal.invariant-rows
invariant-rows l = greatest l.found (flat_map executions (drop l.row-index l.rows)) ≡ greatest l.fn.most (flat_map executions l.rows)
