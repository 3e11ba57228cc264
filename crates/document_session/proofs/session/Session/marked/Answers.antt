use Rattle.std.proofs.Common.{rules, ◌≡◌, Some, None, Ok, subst}
use Rattle.core_jobs.specs.declared.results.NodeResults.{NodeResults}
use Rattle.message_values.specs.declared.editor_message.EditorMessage.TheVariants as asks
use Rattle.core_rules.specs.Legal.{IsLegal}
use Rattle.session_rules.specs.Session.{Session}
use Rattle.keeping_rules.specs.Kept.{session_of}
use Rattle.keeping_rules.specs.Looks.{IsLook}
use Rattle.document_session.specs.Looks.{IsSeen}
use Rattle.document_session.proofs.Inside.{known_inside, known_outside}
use Rattle.document_session.proofs.Looked.{shown}
use Rattle.document_session.proofs.Marking.{has_results, results_in, node_there, edited_there, fits_there}
use Rattle.editor_buffer.proofs.KnownTold.{ok_along}
use Rattle.document_session.proofs.session.Session.marked.Goals as goal

pub unreachable-requires : goal.unreachable-requires
unreachable-requires g c =
    let l = g.L.Language.lang in
    let inside = c.self.inside in
    let s = session_of inside.buffer inside.core.past inside.protocol inside.called in
    let seen = known_inside l (λ service t. IsSeen l t c.args.version c.args.node.now c.args.edits.now c.args.text.now) _ _ _ s
    c.self.view_is c.self.invariant.listed c.requires.seen in
    let none : c.in_ok-results.field-0 ≡ None = search rules in
    absurd (has_results l s c.args.version c.args.node.now c.args.edits.now c.args.text.now seen c.in_ok-results.field-0 c.in_ok-results.ensures none)

pub markup_of-requires-clause-movable : goal.markup_of-requires-clause-movable
markup_of-requires-clause-movable g c =
    let l = g.L.Language.lang in
    let inside = c.self.inside in
    let k = c.self.invariant.listed in
    let s = session_of inside.buffer inside.core.past inside.protocol inside.called in
    let results : NodeResults = c.in-Some.results in
    let seen = known_inside l (λ service t. IsSeen l t c.args.version c.args.node.now c.args.edits.now c.args.text.now) _ _ _ s
    c.self.view_is k c.requires.seen in
    let legal : IsLegal l s.events = subst (λ (t : Session). IsLegal l t.events) k.stands (c.history_law.ensures.events inside.service inside.outbox.items k.legal) in
    let is : c.in_ok-results.field-0 ≡ Some results = search rules in
    let of = results_in l s.events c.args.version c.args.node.now c.in_ok-results.field-0 c.in_ok-results.ensures results is in
    c.snapshot_law.ensures.movable s.events c.args.version c.args.node.now c.args.edits.now results seen.found.node legal of
    (node_there l s c.args.version c.args.node.now c.args.edits.now c.args.text.now seen results of)
    (fits_there l s c.args.version c.args.node.now c.args.edits.now c.args.text.now seen)

pub markup_of-requires-clause-rising : goal.markup_of-requires-clause-rising
markup_of-requires-clause-rising g c =
    let l = g.L.Language.lang in
    let past = c.self.inside.core.past in
    let results : NodeResults = c.in-Some.results in
    let is : c.in_ok-results.field-0 ≡ Some results = search rules in
    c.snapshot_law.ensures.rises past c.args.version c.args.node.now results
    (results_in l past c.args.version c.args.node.now c.in_ok-results.field-0 c.in_ok-results.ensures results is)

pub returns : goal.returns
returns g c =
    let l = g.L.Language.lang in
    let inside = c.self.inside in
    let k = c.self.invariant.listed in
    let id = c.args.version in
    let name = c.args.node.now in
    let edits = c.args.edits.now in
    let text = c.args.text.now in
    let s = session_of inside.buffer inside.core.past inside.protocol inside.called in
    let results : NodeResults = c.in-Some.results in
    let seen = known_inside l (λ service t. IsSeen l t id name edits text) _ _ _ s c.self.view_is k c.requires.seen in
    let legal : IsLegal l s.events = subst (λ (t : Session). IsLegal l t.events) k.stands (c.history_law.ensures.events inside.service inside.outbox.items k.legal) in
    let is : c.in_ok-results.field-0 ≡ Some results = search rules in
    let of = results_in l s.events id name c.in_ok-results.field-0 c.in_ok-results.ensures results is in
    ok_along c.markup_of.result (λ reply says. known_outside l (λ service t. IsLook l service t (Ok (asks.Snapshot id name edits)) reply.items) _ _ _ s
    c.self.view_is k (shown l inside.service s id name edits seen.before seen.found text _ reply.items seen.edited
    (c.snapshot_law.ensures.told inside.service s id name edits results seen.found.node text legal of
    (node_there l s id name edits text seen results of) (edited_there l s id name edits text seen)) says)) c.markup_of.ensures
