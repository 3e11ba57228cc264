use Rattle.std.proofs.Common.{◌≤◌, subst, arith}
use Rattle.session_rules.specs.Services.{free_workers}
use Rattle.keeping_rules.specs.Kept.{session_of}
use Rattle.keeping_rules.specs.Works.{IsDoneWorkOf}
use Rattle.document_session.specs.Contents.{SessionState}
use Rattle.document_session.specs.Answers.{FinishedSo}
use Rattle.document_session.proofs.Holding.{one_held}
use Rattle.document_session.proofs.Inside.{known_inside}
use Rattle.document_session.proofs.Rooms.{state_kept}
use Rattle.document_session.proofs.Worked.{finished_so}
use Rattle.document_session.proofs.session.Session.finish.Goals as goal

pub take_in-finish-requires-clause-holds : goal.take_in-finish-requires-clause-holds
take_in-finish-requires-clause-holds g c =
    let l = g.L.Language.lang in
    (known_inside l (λ service s. IsDoneWorkOf l s c.args.who c.args.done) _ _ _ _ c.self.view_is c.self.invariant.listed c.requires.done).holds

pub take_in-finish-requires-clause-right : goal.take_in-finish-requires-clause-right
take_in-finish-requires-clause-right g c =
    let l = g.L.Language.lang in
    (known_inside l (λ service s. IsDoneWorkOf l s c.args.who c.args.done) _ _ _ _ c.self.view_is c.self.invariant.listed c.requires.done).right

pub take_in-finish-requires-clause-room : goal.take_in-finish-requires-clause-room
take_in-finish-requires-clause-room g c =
    let l = g.L.Language.lang in
    let holds = (known_inside l (λ service s. IsDoneWorkOf l s c.args.who c.args.done) _ _ _ _ c.self.view_is c.self.invariant.listed c.requires.done).holds in
    let one = one_held c.self.inside.core.past c.args.who c.self.inside.held c.args.done.done.part c.self.invariant.holders_are holds in
    omega (arith, one, c.self.invariant.room)

pub overflow_sub-self : goal.overflow_sub-self
overflow_sub-self g c =
    let l = g.L.Language.lang in
    let holds = (known_inside l (λ service s. IsDoneWorkOf l s c.args.who c.args.done) _ _ _ _ c.self.view_is c.self.invariant.listed c.requires.done).holds in
    let one = one_held c.self.inside.core.past c.args.who c.self.inside.held c.args.done.done.part c.self.invariant.holders_are holds in
    omega (arith, one)

pub invariant_of-self : goal.invariant_of-self
invariant_of-self g c =
    let l = g.L.Language.lang in
    let k = c.self.invariant in
    let work = known_inside l (λ service t. IsDoneWorkOf l t c.args.who c.args.done) _ _ _ _ c.self.view_is k.listed c.requires.done in
    let one = one_held c.self.inside.core.past c.args.who c.self.inside.held c.args.done.done.part k.holders_are work.holds in
    c.free_laws.ensures.finished c.self.inside.service (state_kept k)
    c.args.who c.args.done c.take_in-finish.result _ _ _ k
    (known_inside l (λ service t. c.args.who ≤ free_workers service) _ _ _ _ c.self.view_is k.listed c.requires.who)
    work c.take_in-finish.ensures.finished c.take_in-finish.ensures.items c.take_in-finish.ensures.waiting c.take_in-finish.ensures.free
    (omega (arith, one))

pub returns-clause-finished : goal.returns-clause-finished
returns-clause-finished g c =
    let l = g.L.Language.lang in
    let inside = c.self.inside in
    let s = session_of inside.buffer inside.core.past inside.protocol inside.called in
    subst (λ (x : SessionState). FinishedSo l x.service c.args.who c.args.done.done.part x.items c.take_in-finish.result c.take_in-finish.new.outbox.items)
    c.self.view_is (finished_so l inside.service inside.outbox.items _ s c.args.who c.args.done.done.part _ _ c.self.invariant.listed.stands
    c.take_in-finish.ensures.finished c.take_in-finish.ensures.items)

pub returns-clause-legal : goal.returns-clause-legal
returns-clause-legal g c = (invariant_of-self g c).listed.legal
