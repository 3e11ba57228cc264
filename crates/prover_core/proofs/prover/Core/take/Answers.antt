use Rattle.std.proofs.Common.{◌≡◌, Some, None, false, cond, sym, ap, subst, ◌∙◌, arith}
use Rattle.std.specs.Prelude.{◌==◌}
use Rattle.pide_base.specs.declared.part.Part.{Part}
use Rattle.core_rules.specs.Standing.{held, has_ended}
use Rattle.core_rules.specs.Ready.{first_ready}
use Rattle.prover_core.specs.States.{CoreState}
use Rattle.prover_core.specs.Looked.{looked}
use Rattle.prover_core.proofs.KnownResults.{on_ok}
use Rattle.prover_core.proofs.EndedKept.{moved}
use Rattle.prover_core.proofs.TipLive.{laws_of}
use Rattle.prover_core.proofs.RoomKept.{roomier}
use Rattle.prover_core.proofs.FirstOf.{first_present, taking}
use Rattle.prover_core.proofs.ClaimedKept.{claimed_kept}
use Rattle.prover_core.proofs.prover.Core.take.Goals as goal

pub put-requires-clause-new : goal.put-requires-clause-new
put-requires-clause-new g c =
    let idle = subst (λ (s : CoreState). held s.past c.args.who ≡ None) (sym c.self.view_is) c.requires.idle in
    c.make_room.ensures.holders c.args.who ∙ c.self.invariant.holders c.args.who ∙ idle

pub put-requires-clause-room : goal.put-requires-clause-room
put-requires-clause-room g c = on_ok c.make_room.result _ (sym c.if-is_err.ensures.value) c.make_room.ensures.spare

pub invariant_of-self : goal.invariant_of-self
invariant_of-self g c = roomier _ _ _ c.self.invariant _ _ _ _ _ c.make_room.ensures.holders c.make_room.ensures.len c.make_room.ensures.tasks
    c.make_room.ensures.room c.make_room.ensures.count

pub invariant_of-self-in-Ok : goal.invariant_of-self-in-Ok
invariant_of-self-in-Ok g c =
    let idle = subst (λ (s : CoreState). held s.past c.args.who ≡ None) (sym c.self.view_is) c.requires.idle in
    let going = subst (λ (s : CoreState). has_ended s.past ≡ false) (sym c.self.view_is) c.requires.going in
    let first = subst (λ (s : CoreState). first_ready g.L.Language.lang s.past ≡ Some c.args.part) (sym c.self.view_is) c.requires.first in
    let k = roomier _ _ _ c.self.invariant _ _ _ _ _ c.make_room.ensures.holders c.make_room.ensures.len c.make_room.ensures.tasks
    c.make_room.ensures.room c.make_room.ensures.count in
    let laws = laws_of _ _ _ k c.tip_law.ensures c.holders_law.ensures.told in
    let present = first_present _ _ _ k laws (c.first_law.ensures.first c.self.inside.past) (c.first_law.ensures.none c.self.inside.past) c.args.part first in
    let room = on_ok c.make_room.result _ (sym c.if-is_err.ensures.value) c.make_room.ensures.ok in
    moved _ _ _ _ c.add.ensures.items
    (claimed_kept _ _ _ k laws c.args.who c.args.part going idle ((c.first_law.ensures.first c.self.inside.past c.args.part).0 first) present _ _ _ _ _
    (λ w. c.put.ensures.things w ∙ ap (λ (q : Part). cond (c.args.who == w) (Some q) (looked c.make_room.new.holders w)) c.same.ensures)
    (taking _ _ _ k laws (c.first_law.ensures.first c.self.inside.past) (c.first_law.ensures.none c.self.inside.past) c.dequeue.result _ c.args.part first
    c.dequeue.ensures.some c.dequeue.ensures.none c.dequeue.ensures.tasks)
    (omega (arith, c.put.ensures.len, room, c.dequeue.ensures.room)) c.dequeue.ensures.count)
