use Rattle.std.proofs.Common.{arith, ℕ, List, length, option_map, ap, sym, ◌∙◌, refl, subst}
use Rattle.std.specs.HashMap.{hash_map_len}
use Rattle.pide_base.specs.declared.part.Part.{Part}
use Rattle.core_tables.specs.Tasks.{standing}
use Rattle.core_tables.specs.Ready.{AreReady, with_standing}
use Rattle.core_tables.specs.Changes.{with_priority}
use Rattle.core_tables.specs.Kept.{seen}
use Rattle.core_tables.proofs.PutIn.{taken_out, put_in, length-taken_out}
use Rattle.core_tables.proofs.Placed.{place_behind}
use Rattle.core_tables.proofs.Present.{Reordered, none_ranked, stands_here, part_ranked}
use Rattle.core_tables.proofs.KeptAltered.{altered_joined}
use Rattle.core_tables.proofs.queue.TaskQueue.set_priority.Goals as goal
use Rattle.core_tables.proofs.queue.TaskQueue.set_priority.Goals.{in-Some, in_default}

pub remove-requires : goal.remove-requires
remove-requires c =
    (stands_here c.self.inside c.args.self.now c.self.view_is c.self.invariant.ready c.number-number.result c.place_of-old.result c.in-Some.kind
    (sym c.ready_kind.ensures ∙ c.in-Some.is) c.place_of-old.ensures).0

pub insert-requires-clause-room : goal.insert-requires-clause-room
insert-requires-clause-room c =
    let at = stands_here c.self.inside c.args.self.now c.self.view_is c.self.invariant.ready c.number-number.result c.place_of-old.result c.in-Some.kind
    (sym c.ready_kind.ensures ∙ c.in-Some.is) c.place_of-old.ensures in
    let n = length-taken_out c.self.inside.ready.parts c.place_of-old.result at.0 in
    let m = ap (λ (ps : List Part). length ps) c.remove.ensures.parts in
    omega (arith, n, m, c.remove.ensures.capacity)

-- the part moves to its new place where it is ready
pub invariant_of-self : goal.invariant_of-self
invariant_of-self c =
    let q = c.self.inside in
    let i = c.match-ready_kind.self-inside in
    let x = c.number-number.result in
    let now = option_map (with_priority c.args.priority) (standing (seen q) x) in
    let moved : Reordered q x now i = elim c.match-ready_kind.branch [
      | in-Some w ↦
          let ready = part_ranked q c.args.self.now c.self.view_is c.self.invariant.ready x w.place_of-old.result w.in-Some.kind
          (sym c.ready_kind.ensures ∙ w.in-Some.is) w.place_of-old.ensures c.args.priority w.place-new.result w.place-new.ensures in
          let out = taken_out q.ready.parts w.place_of-old.result in
          let place = place_behind w.place-new.result w.place_of-old.result in
          let by_parts : List Part → List Part = λ ps. put_in ps w.behind.result (record { exec = c.args.exec; kind = w.in-Some.kind }) in
          let by_place : ℕ → List Part = λ k. put_in out k (record { exec = c.args.exec; kind = w.in-Some.kind }) in
          let by_exec : ℕ → List Part = λ n. put_in out place (record { exec = n; kind = w.in-Some.kind }) in
          let parts = w.insert.ensures.parts ∙ ap by_parts w.remove.ensures.parts ∙ ap by_place w.behind.ensures
          ∙ ap by_exec (sym c.number-number.ensures.value) in
          let S : List Part → Type 0 = λ ps. AreReady (with_standing (standing (seen q)) x now) ps in
          subst (Reordered q x now) (sym w.self-inside-is)
          (subst S (sym parts) ready, refl, refl, w.insert.ensures.capacity ∙ w.remove.ensures.capacity)
      | in_default w ↦
          let ready = none_ranked q c.args.self.now c.self.view_is c.self.invariant.ready x c.args.priority (sym c.ready_kind.ensures ∙ w.in_default.is) in
          subst (Reordered q x now) (sym w.self-inside-is) (ready, refl, refl, refl)
    ] in
    altered_joined q i c.rank.new.tasks x (with_priority c.args.priority) (λ t e h. h) c.self.invariant moved.1 moved.2 c.rank.ensures.tasks
    moved.0 (omega (arith, c.rank.ensures.len, c.self.invariant.room, moved.3, ap (λ t. hash_map_len t) moved.1))
