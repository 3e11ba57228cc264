use Rattle.std.proofs.Common.{◌≡◌, ℕ, ◌≤◌, Bool, map, take, length}
use Rattle.std.specs.List.{AllByRecursion}
use Rattle.std.specs.Option.{option_map}
use Rattle.core_tables.specs.Tasks.{standing}
use Rattle.prover_core.specs.Plans.{ranked}
use Rattle.prover_core.proofs.ChangedAll.{changed_in}
use Rattle.prover_core.proofs.changing.see_all.Given as goal

abbrev pub invariant-evaluations : goal.invariant-evaluations
invariant-evaluations l = record {
  tasks : (sees : ℕ → Bool) → AllByRecursion (λ s. sees s.exec ≡ s.visible) l.sights → (e : ℕ) → standing l.queue e
      ≡ changed_in (λ n o. option_map (ranked (sees n)) o) (map (λ s. s.exec) (take l.sight-index l.sights))
      (λ n. standing l.fn.queue n) e;
  count : length l.queue.tasks ≡ length l.fn.queue.tasks;
  room : l.fn.queue.room ≤ l.queue.room;
}
