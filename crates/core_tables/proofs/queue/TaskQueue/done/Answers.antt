use Rattle.std.proofs.Common.{arith, ◌≡◌, ◌∙◌, ℕ, Some, None, false, option_map, ap, sym, subst, refl}
use Rattle.std.specs.Option.{option_map_or}
use Rattle.core_tables.specs.declared.queue.TaskQueue.TheInside.{Inside}
use Rattle.text_words.specs.Members.{has}
use Rattle.core_tables.specs.Tasks.{Queue, standing}
use Rattle.core_tables.specs.Changes.{without, IsHeld}
use Rattle.core_tables.specs.Kept.{seen, looked}
use Rattle.core_tables.proofs.Changed.{here}
use Rattle.core_tables.proofs.KeptAlike.{ready_alike}
use Rattle.core_tables.proofs.Unready.{unready_changed}
use Rattle.core_tables.proofs.Doing.{none_told, done_kept, all_free, stays_gone, held_unready}
use Rattle.core_tables.proofs.Telling.{one_told, all_told}
use Rattle.core_tables.proofs.queue.TaskQueue.done.Goals as goal

-- the part was held, so it was not ready
pub loop-waiter-init : goal.loop-waiter-init
loop-waiter-init c =
    let all = standing (seen c.self.inside) in
    let x = c.number-number.result in
    let held = subst by_number (sym c.number-number.ensures.value) (subst by_view (sym c.self.view_is) c.requires.held) in
    let ready = unready_changed all c.self.inside.ready.parts x None (held_unready (all x) held)
    (λ r m. (let clash : None ≡ Some r = m in cc)) c.self.invariant.ready in
    none_told x _ (ready_alike _ (looked c.remove.new.tasks) c.self.inside.ready.parts c.remove.ensures.tasks ready)
    (omega (arith, c.remove.ensures.len, c.self.invariant.room)) c.self.invariant.links
  where
    by_view : Queue → Type 0
    by_view v = IsHeld (standing v c.args.exec)

    by_number : ℕ → Type 0
    by_number n = IsHeld (standing (seen c.self.inside) n)

pub loop-waiter-preserved : goal.loop-waiter-preserved
loop-waiter-preserved c =
    let doing = c.loop-waiter.invariant in
    let first : Inside = record { tasks = c.remove.new.tasks; waiters = c.self.inside.waiters; ready = c.self.inside.ready } in
    let now : Inside = record { tasks = c.meet.new.tasks; waiters = c.next.new.self; ready = c.meet.new.ready } in
    record {
      told = one_told c.number-number.result c.in-Some.waiter first c.loop-waiter.self-inside now doing c.meet.ensures.tasks c.meet.ensures.free c.in-Some.ensures.some;
      ready = c.meet.ensures.ready;
      room = omega (arith, c.meet.ensures.len, c.meet.ensures.capacity, doing.room);
      links = c.next.ensures.all;
      others = λ e f differ waits. c.next.ensures.kept e f differ (doing.others e f differ waits);
      len = c.meet.ensures.len ∙ doing.len;
      spare_tasks = omega (arith, c.meet.ensures.room, doing.spare_tasks);
      capacity = c.meet.ensures.capacity ∙ doing.capacity;
      spare_links = omega (arith, c.next.ensures.room, doing.spare_links);
    }

-- all are told
pub invariant_of-self : goal.invariant_of-self
invariant_of-self c =
    let x = c.number-number.result in
    let P : ℕ → Type 0 = λ n. IsHeld (standing (seen c.self.inside) n) in
    let Q : Queue → Type 0 = λ v. IsHeld (standing v c.args.exec) in
    let held = subst P (sym c.number-number.ensures.value) (subst Q (sym c.self.view_is) c.requires.held) in
    let first : Inside = record { tasks = c.remove.new.tasks; waiters = c.self.inside.waiters; ready = c.self.inside.ready } in
    let now : Inside = record { tasks = c.loop-waiter.self-inside.tasks; waiters = c.next.new.self; ready = c.loop-waiter.self-inside.ready } in
    let gone = stays_gone x first c.loop-waiter.self-inside
    (c.remove.ensures.tasks x ∙ here (standing (seen c.self.inside)) x None) c.loop-waiter.invariant in
    done_kept x c.self.inside first c.loop-waiter.self-inside now c.self.invariant held.0 held.1 c.remove.ensures.tasks refl
    c.loop-waiter.invariant c.in_default.ensures.none gone c.next.ensures.all c.next.ensures.kept refl refl

pub returns-clause-others : goal.returns-clause-others
returns-clause-others c e differ =
    let x = c.number-number.result in
    let P : ℕ → Type 0 = λ n. IsHeld (standing (seen c.self.inside) n) in
    let Q : Queue → Type 0 = λ v. IsHeld (standing v c.args.exec) in
    let held = subst P (sym c.number-number.ensures.value) (subst Q (sym c.self.view_is) c.requires.held) in
    let first : Inside = record { tasks = c.remove.new.tasks; waiters = c.self.inside.waiters; ready = c.self.inside.ready } in
    let told = all_told x c.self.inside first c.loop-waiter.self-inside c.self.invariant held.0 held.1 c.remove.ensures.tasks refl
    c.loop-waiter.invariant c.in_default.ensures.none e (λ same. differ (same ∙ c.number-number.ensures.value)) in
    told ∙ ap (λ n. option_map (without n) (standing (seen c.self.inside) e)) c.number-number.ensures.value
    ∙ ap (λ v. option_map (without c.args.exec) (standing v e)) c.self.view_is

-- nobody is left who waits
pub returns-clause-free : goal.returns-clause-free
returns-clause-free c f =
    let x = c.number-number.result in
    let P : ℕ → Type 0 = λ n. IsHeld (standing (seen c.self.inside) n) in
    let Q : Queue → Type 0 = λ v. IsHeld (standing v c.args.exec) in
    let held = subst P (sym c.number-number.ensures.value) (subst Q (sym c.self.view_is) c.requires.held) in
    let first : Inside = record { tasks = c.remove.new.tasks; waiters = c.self.inside.waiters; ready = c.self.inside.ready } in
    let N : ℕ → Type 0 = λ n. option_map_or (λ t. has t.inputs n) (looked c.loop-waiter.self-inside.tasks f) false ≡ false in
    subst N c.number-number.ensures.value (all_free x c.self.inside first c.loop-waiter.self-inside c.self.invariant held.0 held.1
    c.remove.ensures.tasks refl c.loop-waiter.invariant c.in_default.ensures.none f)
