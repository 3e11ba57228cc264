use Rattle.std.proofs.Common.{arith, ℕ, sym, subst, List}
use Rattle.pide_base.specs.declared.part.Part.{Part}
use Rattle.core_tables.specs.declared.priority.Priority.{Priority}
use Rattle.core_tables.specs.Ready.{AreReady, IsPlaceFor, priority_of}
use Rattle.core_tables.specs.Kept.{looked}
use Rattle.core_tables.proofs.KeptAlike.{ready_alike}
use Rattle.core_tables.proofs.PutIn.{put_in}
use Rattle.core_tables.proofs.Meeting.{met_some, met_none, one_more}
use Rattle.core_tables.proofs.queue.meet.Goals as goal

pub insert-requires-clause-room : goal.insert-requires-clause-room
insert-requires-clause-room c =
    let kind = sym c.in-Some.ensures.kind in
    let few = one_more (looked c.args.tasks.now) c.args.ready.now.parts c.args.tasks.now.entries
    c.number-number.result c.args.exec c.in-Some.kind (λ e some. some) kind c.requires.ready in
    omega (arith, few, c.requires.room)

pub returns-in-Some-clause-ready : goal.returns-in-Some-clause-ready
returns-in-Some-clause-ready c =
    let all = looked c.args.tasks.now in
    let w = c.number-number.result in
    let by_parts : List Part → Type 0 = λ ps. IsPlaceFor all (priority_of all w) w ps c.place-at.result in
    let P : Priority → Type 0 = λ p. IsPlaceFor all p w c.as_slice.result.now c.place-at.result in
    let place = subst by_parts c.as_slice.ensures (subst P c.priority_at.ensures c.place-at.ensures) in
    let ready = met_some all c.args.ready.now.parts w c.args.exec c.place-at.result c.in-Some.kind
    (sym c.in-Some.ensures.kind) place c.requires.ready in
    let R : List Part → Type 0 = λ ps. AreReady (looked c.release.new.tasks) ps in
    let Q : ℕ → Type 0 = λ n. AreReady (looked c.release.new.tasks)
    (put_in c.args.ready.now.parts c.place-at.result (record { exec = n; kind = c.in-Some.kind })) in
    subst R (sym c.insert.ensures.parts) (subst Q c.number-number.ensures.value
    (ready_alike _ (looked c.release.new.tasks) _ c.in-Some.ensures.tasks ready))

pub returns-in_default-clause-ready : goal.returns-in_default-clause-ready
returns-in_default-clause-ready c =
    ready_alike _ (looked c.release.new.tasks) c.args.ready.now.parts c.in_default.ensures.tasks
    (met_none (looked c.args.tasks.now) c.args.ready.now.parts c.number-number.result c.args.exec
    (sym c.in_default.ensures.kind) c.requires.ready)
