use Rattle.std.proofs.Common.{◌≡◌, ◌≤◌, Some, refl, sym, ap, subst, ◌∙◌, arith}
use Rattle.core_jobs.specs.Jobs.{JobContent}
use Rattle.core_rules.specs.Standing.{held}
use Rattle.prover_core.specs.Looked.{looked}
use Rattle.session_rules.specs.Services.{free_workers}
use Rattle.keeping_rules.specs.Kept.{session_of}
use Rattle.document_session.proofs.Drops.{dropped_kept, dropped_so, goes_on_so}
use Rattle.document_session.proofs.Holding.{one_held}
use Rattle.document_session.proofs.Inside.{known_inside}
use Rattle.document_session.proofs.Rooms.{state, room_kept}
use Rattle.document_session.proofs.Worked.{same_work}
use Rattle.document_session.proofs.session.Session.give_up.Goals as goal

pub give_up-requires : goal.give_up-requires
give_up-requires g c = record {
  holds = subst (λ (j : JobContent _). held c.self.inside.core.past c.args.who ≡ Some j.part) (sym c.into_parts-job.ensures.job)
      (known_inside g.L.Language.lang (λ service s. held s.events c.args.who ≡ Some c.args.job.job.part) _ _ _ _ c.self.view_is
      c.self.invariant.listed c.requires.holds);
}

pub invariant_of-self : goal.invariant_of-self
invariant_of-self g c =
    let inside = c.self.inside in
    room_kept g.L.Language.lang _ _ _ _ _ _ c.self.invariant inside.outbox _ refl refl (omega arith)
    (ap (λ h. session_of inside.buffer h inside.protocol inside.called) (sym c.in-GoOn.ensures.given_up.2))

pub overflow_sub-self : goal.overflow_sub-self
overflow_sub-self g c =
    let holds = known_inside g.L.Language.lang (λ service s. held s.events c.args.who ≡ Some c.args.job.job.part) _ _ _ _ c.self.view_is
    c.self.invariant.listed c.requires.holds in
    let one = one_held c.self.inside.core.past c.args.who c.self.inside.held c.args.job.job.part c.self.invariant.holders_are holds in
    omega (arith, one)

pub add-requires : goal.add-requires
add-requires g c =
    let holds = known_inside g.L.Language.lang (λ service s. held s.events c.args.who ≡ Some c.args.job.job.part) _ _ _ _ c.self.view_is
    c.self.invariant.listed c.requires.holds in
    let one = one_held c.self.inside.core.past c.args.who c.self.inside.held c.args.job.job.part c.self.invariant.holders_are holds in
    omega (arith, one, c.self.invariant.room)

pub invariant_of-self-in-Dropped : goal.invariant_of-self-in-Dropped
invariant_of-self-in-Dropped g c =
    let l = g.L.Language.lang in
    let k = c.self.invariant in
    let inside = c.self.inside in
    let s = session_of inside.buffer inside.core.past inside.protocol inside.called in
    let holds = known_inside l (λ service t. held t.events c.args.who ≡ Some c.args.job.job.part) _ _ _ _ c.self.view_is k.listed c.requires.holds in
    let one = one_held inside.core.past c.args.who inside.held c.args.job.job.part k.holders_are holds in
    dropped_kept l inside.service (state inside.outbox s inside.last inside.held (λ who. looked inside.jobs who)) k c.args.who c.args.job
    c.into_parts-job.result.job c.into_parts-job.ensures.job _ c.in-Dropped.ensures.given_up c.free_laws.ensures
    (known_inside l (λ service t. c.args.who ≤ free_workers service) _ _ _ _ c.self.view_is k.listed c.requires.who)
    holds c.part-part.result c.part-part.ensures _ (omega (arith, one)) _ c.into_parts-job.ensures.dropped _
    c.add.ensures.items c.add.ensures.waiting c.add.ensures.free

pub returns-in-GoOn-clause-given_up : goal.returns-in-GoOn-clause-given_up
returns-in-GoOn-clause-given_up g c =
    let l = g.L.Language.lang in
    let inside = c.self.inside in
    let s = session_of inside.buffer inside.core.past inside.protocol inside.called in
    goes_on_so l inside.service (state inside.outbox s inside.last inside.held (λ who. looked inside.jobs who)) c.self.invariant c.args.who c.args.job
    c.into_parts-job.result.job c.into_parts-job.ensures.job _ c.in-GoOn.job c.in-GoOn.ensures.given_up _
    (same_work c.args.job _ c.in-GoOn.job c.protocol-protocol.result c.new.ensures (c.in-GoOn.ensures.given_up.1 ∙ c.into_parts-job.ensures.job)
    c.protocol-protocol.ensures) _ c.self.view_is

pub returns-in-Dropped-clause-given_up : goal.returns-in-Dropped-clause-given_up
returns-in-Dropped-clause-given_up g c =
    let l = g.L.Language.lang in
    let inside = c.self.inside in
    let s = session_of inside.buffer inside.core.past inside.protocol inside.called in
    dropped_so l inside.service (state inside.outbox s inside.last inside.held (λ who. looked inside.jobs who)) c.self.invariant c.args.who c.args.job
    c.into_parts-job.result.job c.into_parts-job.ensures.job _ c.in-Dropped.ensures.given_up c.part-part.result c.part-part.ensures _ c.self.view_is
    _ c.add.ensures.items
