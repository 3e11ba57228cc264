use Rattle.std.proofs.Common.{arith, ◌≡◌, ℕ, ap, length, refl, subst, sym, List, option_map}
use Rattle.pide_base.specs.declared.part.Part.{Part}
use Rattle.core_tables.specs.Tasks.{Queue, standing}
use Rattle.core_tables.specs.Ready.{AreReady, IsNext, IsReadyPart, with_standing}
use Rattle.core_tables.specs.Changes.{taken_task}
use Rattle.core_tables.specs.Kept.{seen, looked}
use Rattle.core_tables.proofs.ReadyLemmas.{last_taken}
use Rattle.core_tables.proofs.LastReady.{last_is_next}
use Rattle.core_tables.proofs.KeptAltered.{altered_kept, taken_unready}
use Rattle.core_tables.proofs.queue.TaskQueue.dequeue.Goals as goal

-- what was ready ends with the part that was taken
pub invariant_of-self-in-Some : goal.invariant_of-self-in-Some
invariant_of-self-in-Some c =
    let all = standing (seen c.self.inside) in
    let P : List Part → Type 0 = λ ps. AreReady all ps in
    let Q : ℕ → Type 0 = λ x. (e : ℕ) → looked c.hold.new.tasks e
    ≡ with_standing all x (option_map taken_task (all x)) e in
    altered_kept c.self.inside _ c.in-Some.part.exec taken_task (λ t e h. h) c.self.invariant
    (subst Q c.number.ensures.value c.hold.ensures.tasks)
    (last_taken all c.pop.new.self.parts c.in-Some.part
    (option_map taken_task (all c.in-Some.part.exec))
    (taken_unready (all c.in-Some.part.exec)) (subst P c.in-Some.ensures.some c.self.invariant.ready))
    (omega (arith, c.hold.ensures.len, c.pop.ensures.capacity, c.self.invariant.room)) refl

pub returns-in-None-clause-none : goal.returns-in-None-clause-none
returns-in-None-clause-none c part is =
    let P : Queue → Type 0 = λ q. IsReadyPart (standing q) part in
    let at = c.self.invariant.ready.complete part (subst P (sym c.self.view_is) is) in
    let none = ap (λ (ps : List Part). length ps) c.in-None.ensures.none.0 in
    omega (arith, at.1, none)

pub returns-in-Some-clause-some : goal.returns-in-Some-clause-some
returns-in-Some-clause-some c =
    let P : List Part → Type 0 = λ ps. AreReady (standing (seen c.self.inside)) ps in
    let ready = subst P c.in-Some.ensures.some c.self.invariant.ready in
    let Q : Queue → Type 0 = λ q. IsNext (standing q) c.in-Some.part in
    subst Q c.self.view_is (last_is_next (standing (seen c.self.inside)) c.pop.new.self.parts c.in-Some.part ready)
