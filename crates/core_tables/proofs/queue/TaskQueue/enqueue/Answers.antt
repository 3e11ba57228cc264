use Rattle.std.proofs.Common.{arith, ◌≡◌, ℕ, List, Some, None, true, false, ap, subst, sym, ◌∙◌}
use Rattle.std.specs.Option.{option_map_or}
use Rattle.std.specs.HashMap.{hash_map_len}
use Rattle.pide_base.specs.declared.part.Part.{Part}
use Rattle.core_tables.specs.declared.queue.TaskQueue.TheInside.{Inside}
use Rattle.core_tables.specs.Deque.{capacity_of}
use Rattle.core_tables.specs.declared.task.Standing.{Standing}
use Rattle.core_tables.specs.Tasks.{Queue, standing, is_ready}
use Rattle.core_tables.specs.Ready.{AreReady, with_standing, IsPlaceFor}
use Rattle.core_tables.specs.Changes.{waiting, nobody_waits}
use Rattle.core_tables.specs.Kept.{seen, looked}
use Rattle.core_tables.proofs.ReadyLemmas.{ready_put_in}
use Rattle.core_tables.proofs.Unready.{IsUnready, unready_changed}
use Rattle.core_tables.proofs.KeptAfter.{few_ready}
use Rattle.core_tables.proofs.KeptAltered.{joined}
use Rattle.core_tables.proofs.queue.TaskQueue.enqueue.Goals as goal
use Rattle.core_tables.proofs.queue.TaskQueue.enqueue.Goals.{then-is_empty, else-is_empty}

-- there is room for as many ready parts as tasks
pub insert-requires-clause-room : goal.insert-requires-clause-room
insert-requires-clause-room c =
    let few = few_ready c.self.inside c.self.invariant in
    let room = ap (λ (q : Queue). q.room) c.self.view_is in
    omega (arith, few, room, c.requires.room)

pub invariant_of-self : goal.invariant_of-self
invariant_of-self c =
    let q = c.self.inside in
    let x = c.args.task.part.exec in
    let s = waiting c.args.task in
    let all = standing (seen q) in
    let named : ℕ → Type 0 = λ n. (e : ℕ) → looked c.put.new.tasks e
    ≡ with_standing (looked c.if-is_empty.self-inside.tasks) n (Some c.waiting.result) e in
    let put = subst named c.number-number.ensures.value c.put.ensures.tasks in
    let placed : ℕ → Type 0 = λ n. IsPlaceFor all c.args.task.priority n q.ready.parts c.place-at.result in
    let by_view : Queue → Type 0 = λ v. IsPlaceFor (standing v) c.args.task.priority c.number-number.result v.ready c.place-at.result in
    let place = subst placed c.number-number.ensures.value (subst by_view (sym c.self.view_is) c.place-at.ensures) in
    let new : Queue → Type 0 = λ v. standing v x ≡ None in
    let fresh : all x ≡ None = subst new (sym c.self.view_is) c.requires.new in
    let nobody : Queue → Type 0 = λ v. nobody_waits v x in
    let unwaited = subst nobody (sym c.self.view_is) c.requires.first in
    let room = ap (λ (v : Queue). v.room) c.self.view_is in
    let unready : IsUnready (all x) = λ r is. (let clash : None ≡ Some r = sym fresh ∙ is in cc) in
    elim c.if-is_empty.branch [
      | then-is_empty w ↦
          let is = w.self-inside-is in
          let empty : is_ready s ≡ true = sym c.is_empty.ensures ∙ w.if-is_empty.true in
          let ready = ready_put_in all q.ready.parts x s c.place-at.result unready empty place c.self.invariant.ready in
          let P : List Part → Type 0 = λ ps. AreReady (with_standing all x (Some s)) ps in
          joined q c.if-is_empty.self-inside c.put.new.tasks c.link.new.waiters x s c.self.invariant unwaited
          (ap (λ (i : Inside). i.tasks) is) (ap (λ (i : Inside). i.waiters) is)
          (λ e. put e ∙ ap (λ t. with_standing (looked c.if-is_empty.self-inside.tasks) x (Some t) e) c.waiting.ensures)
          (let R : Inside → Type 0 = λ i. P i.ready.parts in subst R (sym is) (subst P (sym w.insert.ensures.parts) ready))
          (omega (
            arith,
            c.put.ensures.len,
            room,
            c.requires.room,
            w.insert.ensures.capacity,
            ap (λ (i : Inside). capacity_of i.ready) is,
            ap (λ (i : Inside). hash_map_len i.tasks) is,
          ))
          c.link.ensures.all c.link.ensures.kept c.link.ensures.linked
      | else-is_empty w ↦
          let is = w.self-inside-is in
          let some : is_ready s ≡ false = sym c.is_empty.ensures ∙ w.if-is_empty.false in
          let still = unready_changed all q.ready.parts x (Some s) unready
          (λ r one. let P : Standing → Type 0 = λ t. is_ready t ≡ false in
          subst P (ap (λ o. option_map_or (λ t. t) o s) one) some) c.self.invariant.ready in
          joined q c.if-is_empty.self-inside c.put.new.tasks c.link.new.waiters x s c.self.invariant unwaited
          (ap (λ (i : Inside). i.tasks) is) (ap (λ (i : Inside). i.waiters) is)
          (λ e. put e ∙ ap (λ t. with_standing (looked c.if-is_empty.self-inside.tasks) x (Some t) e) c.waiting.ensures)
          (let R : Inside → Type 0 = λ i. AreReady (with_standing all x (Some s)) i.ready.parts in subst R (sym is) still)
          (omega (
            arith,
            c.put.ensures.len,
            room,
            c.requires.room,
            ap (λ (i : Inside). capacity_of i.ready) is,
            ap (λ (i : Inside). hash_map_len i.tasks) is,
          ))
          c.link.ensures.all c.link.ensures.kept c.link.ensures.linked
    ]
