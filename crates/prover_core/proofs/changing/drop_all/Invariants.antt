use Rattle.std.proofs.Common.{◌≡◌, ℕ, ◌≤◌, None, take, length}
use Rattle.core_tables.specs.Rows.{execution_of}
use Rattle.core_tables.specs.Finish.{after_cancelling}
use Rattle.core_tables.specs.Tasks.{standing}
use Rattle.prover_core.proofs.ChangedAll.{changed_in}
use Rattle.prover_core.proofs.changing.drop_all.Given as goal

abbrev pub invariant-executions : goal.invariant-executions
invariant-executions g l = record {
  rows : (e : ℕ) → execution_of l.execs.rows e
      ≡ changed_in (λ n o. after_cancelling o) (take l.exec-index l.dropped) (λ n. execution_of l.fn.execs.rows n) e;
  tasks : (e : ℕ) → standing l.queue e
      ≡ changed_in (λ n o. None) (take l.exec-index l.dropped) (λ n. standing l.fn.queue n) e;
  executions : l.execs.room ≡ l.fn.execs.room;
  count : length l.queue.tasks ≤ length l.fn.queue.tasks;
  room : l.fn.queue.room ≤ l.queue.room;
  links : l.fn.queue.links ≤ l.queue.links;
}
