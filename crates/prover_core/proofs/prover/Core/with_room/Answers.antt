-- Once there is room, what is kept is as it was, and there is enough of it for the plan.
use Rattle.std.proofs.Common.{◌≡◌, ◌+◌, ◌≤◌, subst, length, ap, arith, rules}
use Rattle.std.specs.Prelude.{vec_capacity}
use Rattle.std.specs.HashMap.{hash_map_len, spare}
use Rattle.std.specs.Option.{option_map}
use Rattle.update_plans.specs.declared.known.Known.{Known}
use Rattle.prover_core.specs.Plans.{PlanState}
use Rattle.prover_core.proofs.KnownResults.{when_ok}
use Rattle.prover_core.proofs.PlanRoom.{room_for, room_same, roomy_tables}
use Rattle.prover_core.proofs.prover.Core.with_room.Goals as goal

pub invariant_of-self : goal.invariant_of-self
invariant_of-self g c =
    let ens = c.make_room-made.ensures in
    roomy_tables g.L.Language.lang c.self.inside.past _ c.self.invariant _ _ _ _ _ _ _ _ _ ens.start ens.live ens.losses
    ens.rows (λ e. ap (option_map (λ (k : Known). k.home)) (ens.known e)) ens.tasks ens.room
    ens.count ens.cancelled (omega (arith, ens.len, ens.capacity))

pub invariant_of-self-2 : goal.invariant_of-self-2
invariant_of-self-2 g c =
    let ens = c.make_room-made.ensures in
    roomy_tables g.L.Language.lang c.self.inside.past _ c.self.invariant _ _ _ _ _ _ _ _ _ ens.start ens.live ens.losses
    ens.rows (λ e. ap (option_map (λ (k : Known). k.home)) (ens.known e)) ens.tasks ens.room
    ens.count ens.cancelled (omega (arith, ens.len, ens.capacity))

pub returns-clause-room : goal.returns-clause-room
returns-clause-room g c =
    let ens = c.make_room-made.ensures in
    let made = c.in_ok-plan.ensures.first in
    let same : c.args.plan ≡ c.in_ok-plan.plan = search rules in
    room_same _ _ _ same
    (room_for c.args.plan c.deref.result.now c.plan.inside.fresh.items c.make_room-made.new.versions.room c.make_room-made.new.losses.room c.make_room-made.new.execs.room
    (spare c.make_room-made.new.known) c.make_room-made.new.queue.room (hash_map_len c.self.inside.holders) c.make_room-made.new.queue.links
    (length c.make_room-made.new.queue.tasks) (vec_capacity c.make_room-made.new.cancelled)
    (ap (λ (p : PlanState). p.tasks) c.plan.view_is) c.deref.ensures.value (when_ok made ens.versions_fit) (when_ok made ens.losses_fit) (when_ok made ens.executions_fit) (when_ok made ens.known_fit)
    (subst (λ n. length c.deref.result.now + n ≤ c.make_room-made.new.queue.room) c.len.ensures.len (when_ok made ens.tasks_fit)) (when_ok made ens.links_fit) (when_ok made ens.cancelled_fit))
