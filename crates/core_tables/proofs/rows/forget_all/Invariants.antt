use Rattle.std.proofs.Common.{◌≡◌, ◌≤◌, ℕ, None, cond, take}
use Rattle.std.specs.Prelude.{◌==◌}
use Rattle.std.specs.List.{list_any}
use Rattle.std.specs.HashMap.{spare}
use Rattle.core_tables.specs.Rows.{execution_of}
use Rattle.core_tables.proofs.rows.forget_all.Given as goal

abbrev pub invariant-executions : goal.invariant-executions
invariant-executions g l = ((e : ℕ) → execution_of l.rows.entries e
    ≡ cond (list_any (λ id. id == e) (take l.exec-index l.gone)) None (execution_of l.fn.rows.entries e))
    × (spare l.fn.rows ≤ spare l.rows)
