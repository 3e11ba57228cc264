use Rattle.std.proofs.Common.{◌≡◌, ◌++◌, drop}
use Rattle.std.specs.Prelude.{filter}
use Rattle.core_tables.specs.Rows.{execution_of}
use Rattle.core_jobs.specs.Parts.{is_unfinished}
use Rattle.core_jobs.proofs.opened.open_of.Given as goal

abbrev pub invariant-loop-exec : goal.invariant-loop-exec
invariant-loop-exec g l = l.found.items
    ++ filter (λ e. is_unfinished (execution_of l.execs.rows e)) (drop l.exec-index l.all)
    ≡ filter (λ e. is_unfinished (execution_of l.execs.rows e)) l.all
