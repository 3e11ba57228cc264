use Rattle.std.proofs.Common.{◌≡◌, ℕ, None, length}
use Rattle.std.specs.Prelude.{if◌then◌else◌}
use Rattle.pide_mirror.specs.Indexed.{row_at, executions_in}
use Rattle.pide_mirror.specs.Renewed.{is_stale}
use Rattle.pide_mirror.specs.Tables.{table_of}
use Rattle.pide_mirror.proofs.renewing.leave_rows.Given as goal

abbrev pub invariant-rows : goal.invariant-rows
invariant-rows l = (e c : ℕ)
    → (if is_stale l.rest (λ command. executions_in (row_at l.kept.entries command)) e c then None else table_of l.places e c)
    ≡ (if is_stale l.rows (λ command. executions_in (row_at l.kept.entries command)) e c then None else table_of l.fn.places e c)

abbrev pub decreases-rows : goal.decreases-rows
decreases-rows l = length l.rest
