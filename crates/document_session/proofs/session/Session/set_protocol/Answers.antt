use Rattle.std.proofs.Common.{◌≡◌, Ok}
use Rattle.message_values.specs.declared.editor_message.EditorMessage.TheVariants as asks
use Rattle.message_values.specs.declared.refusal.Refusal.TheVariants.{ProtocolFixed}
use Rattle.message_values.specs.Asked.{asked}
use Rattle.session_rules.specs.Services.{mode_of}
use Rattle.keeping_rules.specs.Kept.{session_of}
use Rattle.document_session.proofs.Inside.{going_on, known_inside}
use Rattle.document_session.proofs.Refusals.{protocol_fixed}
use Rattle.document_session.proofs.Refusing.{refused_outside}
use Rattle.document_session.proofs.Rooms.{state_kept, replied_by}
use Rattle.document_session.proofs.session.Session.set_protocol.Goals as goal

pub refuse-requires-clause-refused : goal.refuse-requires-clause-refused
refuse-requires-clause-refused g c =
    let l = g.L.Language.lang in
    let inside = c.self.inside in
    let s = session_of inside.buffer inside.core.past inside.protocol inside.called in
    refused_outside l _ _ _ s c.args.message (asks.Protocol c.args.protocol) ProtocolFixed c.self.view_is c.self.invariant.listed c.requires.read
    (protocol_fixed l inside.service s c.args.protocol c.if-self.true)

pub invariant_of-self-2 : goal.invariant_of-self-2
invariant_of-self-2 g c =
    let l = g.L.Language.lang in
    let k = c.self.invariant in
    c.change_laws.ensures.protocol_set c.self.inside.service (state_kept k)
    c.args.message c.args.protocol _
    (replied_by l _ _ _ _ _ _ k _ _ _ _ _ c.in_ok-reply.ensures (going_on l _ _ _ _ c.self.view_is k.listed c.requires.going)
    c.make_room.ensures.items c.make_room.ensures.waiting c.in_ok-make_room.ensures.ok
    c.add.ensures.items c.add.ensures.waiting c.add.ensures.free)
    (known_inside l (λ service t. asked (mode_of service) c.args.message ≡ Ok (asks.Protocol c.args.protocol)) _ _ _ _
    c.self.view_is k.listed c.requires.read)
    c.if-self.false

pub returns-clause-legal : goal.returns-clause-legal
returns-clause-legal g c = (invariant_of-self-2 g c).listed.legal
