use Rattle.std.proofs.Common.{◌≡◌, ◌++◌, ◌-◌, map, drop}
use Rattle.core_tables.specs.Rows.{execution_of}
use Rattle.core_jobs.specs.Parts.{told_part, rows_known}
use Rattle.core_jobs.proofs.shown.finished_parts.Given as goal

abbrev pub invariant-commands : goal.invariant-commands
invariant-commands g l = map told_part l.parts.items
    ++ rows_known (λ e. execution_of l.execs.rows e) (drop l.place l.entries) (drop l.place l.rows)
    ≡ rows_known (λ e. execution_of l.execs.rows e) l.entries l.rows

abbrev pub decreases-commands : goal.decreases-commands
decreases-commands g l = l.count - l.place
