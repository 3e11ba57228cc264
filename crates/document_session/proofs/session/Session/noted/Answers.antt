use Rattle.std.proofs.Common.{refl}
use Rattle.message_values.specs.Asked.{asked}
use Rattle.session_rules.specs.Services.{mode_of}
use Rattle.keeping_rules.specs.Looks.{IsLook}
use Rattle.document_session.proofs.Inside.{going_on, known_inside}
use Rattle.document_session.proofs.Rooms.{state_kept, replied_by}
use Rattle.document_session.proofs.session.Session.noted.Goals as goal

pub invariant_of-self-2 : goal.invariant_of-self-2
invariant_of-self-2 g c =
    let l = g.L.Language.lang in
    let k = c.self.invariant in
    c.look_laws.ensures.looked c.self.inside.service (state_kept k)
    c.args.message c.args.reply.items _
    (replied_by l _ _ _ _ _ _ k _ _ _ _ _ refl (going_on l _ _ _ _ c.self.view_is k.listed c.requires.going)
    c.make_room.ensures.items c.make_room.ensures.waiting c.in_ok-make_room.ensures.ok
    c.add.ensures.items c.add.ensures.waiting c.add.ensures.free)
    (known_inside l (λ service t. IsLook l service t (asked (mode_of service) c.args.message) c.args.reply.items) _ _ _ _
    c.self.view_is k.listed c.requires.told)

pub returns-clause-legal : goal.returns-clause-legal
returns-clause-legal g c = (invariant_of-self-2 g c).listed.legal
