use Rattle.std.proofs.Common.{◌≡◌, Ok}
use Rattle.message_values.specs.declared.editor_message.EditorMessage.TheVariants as asks
use Rattle.message_values.specs.Asked.{asked}
use Rattle.session_rules.specs.Services.{mode_of}
use Rattle.document_session.proofs.Inside.{going_on, known_inside}
use Rattle.document_session.proofs.Rooms.{state_kept, replied_by}
use Rattle.document_session.proofs.session.Session.cancel.Goals as goal

pub cancel-answer-requires : goal.cancel-answer-requires
cancel-answer-requires g c = record { going = going_on g.L.Language.lang _ _ _ _ c.self.view_is c.self.invariant.listed c.requires.going }

pub invariant_of-self-2 : goal.invariant_of-self-2
invariant_of-self-2 g c =
    let l = g.L.Language.lang in
    let k = c.self.invariant in
    c.change_laws.ensures.cancelled c.self.inside.service (state_kept k)
    c.args.message c.args.exec c.cancel-answer.result _ _
    (replied_by l _ _ _ _ _ _ k _ _ _ _ _ (c.reply.ensures c.args.exec c.in_ok-replies.ensures)
    (going_on l _ _ _ _ c.self.view_is k.listed c.requires.going)
    c.make_room.ensures.items c.make_room.ensures.waiting c.in_ok-make_room.ensures.ok
    c.add.ensures.items c.add.ensures.waiting c.add.ensures.free)
    (known_inside l (λ service t. asked (mode_of service) c.args.message ≡ Ok (asks.Cancel c.args.exec)) _ _ _ _
    c.self.view_is k.listed c.requires.read)
    c.cancel-answer.ensures.cancelled

pub returns-clause-legal : goal.returns-clause-legal
returns-clause-legal g c = (invariant_of-self-2 g c).listed.legal
