use Rattle.std.proofs.Common.{◌≡◌, ℕ, ◌+◌, ◌≤◌, length, reverse}
use Rattle.std.specs.Prelude.{flat_map}
use Rattle.std.specs.HashMap.{spare}
use Rattle.core_tables.specs.Rows.{execution_of}
use Rattle.core_tables.specs.Tasks.{standing}
use Rattle.core_tables.specs.Changes.{waiting}
use Rattle.prover_core.specs.Looked.{looked}
use Rattle.prover_core.specs.Plans.{begun_as}
use Rattle.prover_core.specs.Fresh.{with_fresh, AreNew}
use Rattle.prover_core.proofs.adding.add_all.Given as goal

abbrev pub invariant-news : goal.invariant-news
invariant-news g l = record {
  new : AreNew (reverse l.fresh.items) (λ e. execution_of l.execs.rows e) (λ e. looked l.known e) (λ e. standing l.queue e);
  rows : (e : ℕ) → with_fresh (λ one. begun_as one.task.part.kind) (reverse l.fresh.items) (λ n. execution_of l.execs.rows n) e
      ≡ with_fresh (λ one. begun_as one.task.part.kind) (reverse l.fn.fresh.items) (λ n. execution_of l.fn.execs.rows n) e;
  homes : (e : ℕ) → with_fresh (λ one. one.known) (reverse l.fresh.items) (λ n. looked l.known n) e
      ≡ with_fresh (λ one. one.known) (reverse l.fn.fresh.items) (λ n. looked l.fn.known n) e;
  tasks : (e : ℕ) → with_fresh (λ one. waiting one.task) (reverse l.fresh.items) (λ n. standing l.queue n) e
      ≡ with_fresh (λ one. waiting one.task) (reverse l.fn.fresh.items) (λ n. standing l.fn.queue n) e;
  executions : length l.fresh.items ≤ l.execs.room;
  spare : length l.fresh.items ≤ spare l.known;
  left : length l.fresh.items ≤ l.queue.room;
  count : length l.queue.tasks + length l.fresh.items ≤ length l.fn.queue.tasks + length l.fn.fresh.items;
  room : l.fn.queue.room + length l.fresh.items ≤ l.queue.room + length l.fn.fresh.items;
  links : length (flat_map (λ one. one.task.inputs) (reverse l.fresh.items)) ≤ l.queue.links;
}

abbrev pub decreases-news : goal.decreases-news
decreases-news g l = length l.fresh.items
