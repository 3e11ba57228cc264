-- A queue whose tasks lie in another order, or that has more room, is kept as well.
use Rattle.std.proofs.Common.{◌≡◌, ℕ, ◌≤◌, List, sym, subst, ◌∙◌, arith}
use Rattle.std.specs.HashMap.{hash_map_len}
use Rattle.pide_base.specs.declared.part.Part.{Part}
use Rattle.core_tables.specs.declared.queue.TaskQueue.TheInside.{Inside}
use Rattle.core_tables.specs.Deque.{capacity_of}
use Rattle.core_tables.specs.Tasks.{standing}
use Rattle.core_tables.specs.Waiters.{Waits, HasAll}
use Rattle.core_tables.specs.Ready.{Standings, AreReady}
use Rattle.core_tables.specs.Kept.{seen, IsKept}

-- what is ready goes by how the parts stand
pub ready_alike : (all more : Standings) (parts : List Part) → ((e : ℕ) → more e ≡ all e)
    → AreReady all parts → AreReady more parts
ready_alike all more parts same ready =
    let is : all ≡ more = λ i e. sym (same e) i in
    let P : Standings → Type 0 = λ f. AreReady f parts in subst P is ready

pub kept_alike : (q r : Inside) → IsKept q → ((e : ℕ) → standing (seen r) e ≡ standing (seen q) e)
    → hash_map_len r.tasks ≡ hash_map_len q.tasks → capacity_of q.ready ≤ capacity_of r.ready
    → r.ready.parts ≡ q.ready.parts → HasAll r.waiters
    → ((e f : ℕ) → Waits q.waiters e f → Waits r.waiters e f) → IsKept r
kept_alike q r k same len capacity parts links waits = record {
  ready = rw parts (ready_alike (standing (seen q)) (standing (seen r)) q.ready.parts same k.ready);
  room = omega (arith, k.room, len, capacity);
  links = links;
  waiters = λ e f a b one other has. waits e f (k.waiters e f a b (sym (same e) ∙ one) (sym (same f) ∙ other) has);
}
