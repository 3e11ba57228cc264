-- The present part of an execution among a queue's ready ones, by what the queue's own calls tell of it.
use Rattle.std.proofs.Common.{◌≡◌, ℕ, ◌<◌, length, get_or, Option, Some, None, option_map, sym, subst}
use Rattle.pide_base.specs.declared.part.Part.{Part}
use Rattle.pide_base.specs.declared.part.PartKind.{PartKind}
use Rattle.core_tables.specs.declared.priority.Priority.{Priority}
use Rattle.core_tables.specs.declared.queue.TaskQueue.TheInside.{Inside}
use Rattle.core_tables.specs.declared.task.Standing.{Standing}
use Rattle.core_tables.specs.Deque.{capacity_of}
use Rattle.core_tables.specs.Tasks.{Queue, standing}
use Rattle.core_tables.specs.Ready.{AreReady, IsPlaceFor, priority_of, with_standing}
use Rattle.core_tables.specs.Changes.{ready_kind, with_priority}
use Rattle.core_tables.specs.Kept.{seen}
use Rattle.core_tables.proofs.PutIn.{taken_out, put_in}
use Rattle.core_tables.proofs.ReadyLemmas.{ready_taken_out}
use Rattle.core_tables.proofs.Unready.{unready_changed}
use Rattle.core_tables.proofs.Placed.{stands_at, unready_if_untold, ranked_ready, ranked_unready, place_behind}

-- the ready parts are in order where the part stands otherwise, and all else is as it was
abbrev pub Reordered : Inside → ℕ → Option Standing → Inside → Type 0
Reordered q e s j = AreReady (with_standing (standing (seen q)) e s) j.ready.parts
    × (j.tasks ≡ q.tasks) × (j.waiters ≡ q.waiters) × (capacity_of j.ready ≡ capacity_of q.ready)

module _ (q : Inside) (v : Queue) (is : seen q ≡ v) (ready : AreReady (standing (seen q)) q.ready.parts) (e : ℕ) where
  kind_of : (k : Option PartKind) → ready_kind (standing v e) ≡ k → ready_kind (standing (seen q) e) ≡ k
  kind_of k = subst (λ (u : Queue). ready_kind (standing u e) ≡ k) (sym is)

  -- where it has no ready part, none is taken out
  pub none_left : ready_kind (standing v e) ≡ None → AreReady (with_standing (standing (seen q)) e None) q.ready.parts
  none_left untold =
      unready_changed (standing (seen q)) q.ready.parts e None (unready_if_untold (standing (seen q) e) (kind_of None untold))
      (λ r m. (let clash : None ≡ Some r = m in cc)) ready

  pub none_ranked : (p : Priority) → ready_kind (standing v e) ≡ None
      → AreReady (with_standing (standing (seen q)) e (option_map (with_priority p) (standing (seen q) e))) q.ready.parts
  none_ranked p untold = ranked_unready (standing (seen q)) p q.ready.parts e ready (kind_of None untold)

  module _ (i : ℕ) (kind : PartKind) (told : ready_kind (standing v e) ≡ Some kind)
      (place : IsPlaceFor (standing v) (priority_of (standing v) e) e v.ready i) where
    abbrev pub part : Part
    part = record { exec = e; kind = kind }

    pub stands_here : (i < length q.ready.parts) × ((get_or q.ready.parts i part).exec ≡ e)
    stands_here =
        stands_at (standing (seen q)) q.ready.parts e i kind part ready (kind_of (Some kind) told)
        (subst (λ (u : Queue). IsPlaceFor (standing u) (priority_of (standing u) e) e u.ready i) (sym is) place)

    -- it leaves
    pub part_left : AreReady (with_standing (standing (seen q)) e None) (taken_out q.ready.parts i)
    part_left =
        ready_taken_out (standing (seen q)) q.ready.parts e None i part stands_here.0 stands_here.1
        (λ r m. (let clash : None ≡ Some r = m in cc)) ready

    -- it goes to the place that another priority gives it
    pub part_ranked : (p : Priority) (new : ℕ) → IsPlaceFor (standing v) p e v.ready new
        → AreReady (with_standing (standing (seen q)) e (option_map (with_priority p) (standing (seen q) e)))
        (put_in (taken_out q.ready.parts i) (place_behind new i) part)
    part_ranked p new behind =
        ranked_ready (standing (seen q)) p q.ready.parts e i new kind part ready (kind_of (Some kind) told) stands_here.0 stands_here.1
        (subst (λ (u : Queue). IsPlaceFor (standing u) p e u.ready new) (sym is) behind)
