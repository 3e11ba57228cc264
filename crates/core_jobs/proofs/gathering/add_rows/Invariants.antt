use Rattle.std.proofs.Common.{◌≡◌, ◌++◌, drop}
use Rattle.std.specs.Prelude.{flat_map}
use Rattle.core_rules.specs.exec_rules_below.Listed.{executions}
use Rattle.core_jobs.proofs.gathering.add_rows.Given as goal

abbrev pub invariant-loop-row : goal.invariant-loop-row
invariant-loop-row l = l.execs.items ++ flat_map executions (drop l.row-index l.rows)
    ≡ l.fn.execs.items ++ flat_map executions l.rows
