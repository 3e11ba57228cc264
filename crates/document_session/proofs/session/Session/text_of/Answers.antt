use Rattle.std.proofs.Common.{◌≡◌, List, Ok, Err, None, sym, subst, ◌∙◌}
use Rattle.text_edits.specs.declared.edit.Edit.{Edit}
use Rattle.message_values.specs.declared.editor_message.EditorMessage.TheVariants as asks
use Rattle.message_values.specs.declared.refusal.Refusal.TheVariants.{UnknownNode}
use Rattle.core_rules.specs.Updates.{node_in}
use Rattle.session_rules.specs.Accepting.{taken}
use Rattle.keeping_rules.specs.Legal.{AreLegal}
use Rattle.keeping_rules.specs.Kept.{session_of}
use Rattle.document_session.specs.Contents.{SessionState}
use Rattle.document_session.specs.Looks.{IsFound}
use Rattle.document_session.proofs.Inside.{known_outside}
use Rattle.document_session.proofs.Looked.{no_node, node_found, found_so}
use Rattle.document_session.proofs.session.Session.text_of.Goals as goal

pub returns-in-Some-get-clause-found : goal.returns-in-Some-get-clause-found
returns-in-Some-get-clause-found g c =
    let l = g.L.Language.lang in
    let inside = c.self.inside in
    let s = session_of inside.buffer inside.core.past inside.protocol inside.called in
    let text : c.as_slice.result.now ≡ c.in-Some-get.found.now.text = cc in
    known_outside l (λ service t. IsFound l t c.args.version c.args.node.now c.as_slice.result.now) _ _ _ _ c.self.view_is c.self.invariant.listed
    (found_so l s c.args.version c.args.node.now c.as_slice.result.now c.in-Some.live.now c.in-Some-get.found.now
    (sym c.in-Some.ensures) (sym c.in-Some-get.ensures) text)

pub returns-in-Some-get-clause-legal : goal.returns-in-Some-get-clause-legal
returns-in-Some-get-clause-legal g c = subst (λ (x : SessionState). AreLegal g.L.Language.lang x.service x.items) c.self.view_is
    c.self.invariant.listed.legal

pub returns-in-None-clause-found : goal.returns-in-None-clause-found
returns-in-None-clause-found g c =
    let l = g.L.Language.lang in
    let inside = c.self.inside in
    let s = session_of inside.buffer inside.core.past inside.protocol inside.called in
    let version = c.in-Some.live.now in
    let none : node_in version c.args.node.now ≡ None = node_found version c.args.node.now ∙ sym c.in-None.ensures in
    known_outside l (λ service t. (edits : List Edit) → taken l service t (Ok (asks.Snapshot c.args.version c.args.node.now edits)) ≡ Err UnknownNode)
    _ _ _ _ c.self.view_is c.self.invariant.listed
    (λ edits. no_node l inside.service s c.args.version c.args.node.now edits version (sym c.in-Some.ensures) none)

pub returns-in-None-clause-legal : goal.returns-in-None-clause-legal
returns-in-None-clause-legal g c = subst (λ (x : SessionState). AreLegal g.L.Language.lang x.service x.items) c.self.view_is
    c.self.invariant.listed.legal
