use Rattle.std.proofs.Common.{rules, ◌≡◌, ℕ, true, false, List, ◌∷◌, Ok, ap, sym, subst, ◌∙◌}
use Rattle.core_tables.specs.declared.versions.Removing.{Removing}
use Rattle.core_tables.specs.declared.versions.Removing.TheVariants as answer
use Rattle.core_tables.specs.Removal.{removing}
use Rattle.message_values.specs.declared.editor_message.EditorMessage.TheVariants as asks
use Rattle.message_values.specs.Asked.{asked}
use Rattle.core_rules.specs.declared.event.Event.{Event}
use Rattle.core_rules.specs.declared.event.Event.TheVariants as event
use Rattle.core_rules.specs.Doc.{doc}
use Rattle.core_rules.specs.Legal.{IsLegal}
use Rattle.core_rules.specs.Standing.{has_ended}
use Rattle.prover_core.specs.Looked.{looked}
use Rattle.prover_core.specs.Removal.{with_removal}
use Rattle.prover_core.specs.States.{CoreState}
use Rattle.session_rules.specs.Services.{mode_of}
use Rattle.session_rules.specs.Replies.{live_among}
use Rattle.keeping_rules.specs.session_replies_below.Removed.{IsRisen}
use Rattle.keeping_rules.specs.Items.{SessionItem, session_in}
use Rattle.keeping_rules.specs.Kept.{session_of, IsKept}
use Rattle.document_session.specs.Contents.{SessionState}
use Rattle.document_session.proofs.Inside.{going_on, known_inside}
use Rattle.document_session.proofs.Rooms.{state, replied_by, room_kept}
use Rattle.document_session.proofs.session.Session.remove.Goals as goal

pub remove-requires : goal.remove-requires
remove-requires g c = record { going = going_on g.L.Language.lang _ _ _ _ c.self.view_is c.self.invariant.listed c.requires.going }

pub invariant_of-self-in_err-remove : goal.invariant_of-self-in_err-remove
invariant_of-self-in_err-remove g c = room_kept g.L.Language.lang _ _ _ _ _ _ c.self.invariant _ _
    c.make_room.ensures.items c.make_room.ensures.waiting c.make_room.ensures.free
    (ap (λ (x : CoreState). session_of c.self.inside.buffer x.past c.self.inside.protocol c.self.inside.called) (sym c.in_err-remove.ensures.err))

pub invariant_of-self-in-Unknown : goal.invariant_of-self-in-Unknown
invariant_of-self-in-Unknown g c =
    let past = c.self.inside.core.past in
    let is : c.in_ok-remove.field-0 ≡ answer.Unknown c.in-Unknown.field-0 = search rules in
    let same : c.remove.new.self.past ≡ past =
    c.in_ok-remove.ensures.past ∙ ap (λ (a : Removing). with_removal c.args.versions a past) is in
    room_kept g.L.Language.lang _ _ _ _ _ _ c.self.invariant _ _
    c.make_room.ensures.items c.make_room.ensures.waiting c.make_room.ensures.free
    (ap (λ (h : List Event). session_of c.self.inside.buffer h c.self.inside.protocol c.self.inside.called) (sym same))

pub refuse-requires-clause-going : goal.refuse-requires-clause-going
refuse-requires-clause-going g c =
    let l = g.L.Language.lang in
    subst (λ (is : List SessionItem). has_ended (session_in l c.self.inside.service is).events ≡ false) (sym c.make_room.ensures.items)
    (subst (λ (x : SessionState). has_ended (session_in l x.service x.items).events ≡ false) (sym c.self.view_is) c.requires.going)

pub invariant_of-self-in-Tip : goal.invariant_of-self-in-Tip
invariant_of-self-in-Tip g c =
    let past = c.self.inside.core.past in
    let is : c.in_ok-remove.field-0 ≡ answer.Tip = search rules in
    let same : c.remove.new.self.past ≡ past =
    c.in_ok-remove.ensures.past ∙ ap (λ (a : Removing). with_removal c.args.versions a past) is in
    room_kept g.L.Language.lang _ _ _ _ _ _ c.self.invariant _ _
    c.make_room.ensures.items c.make_room.ensures.waiting c.make_room.ensures.free
    (ap (λ (h : List Event). session_of c.self.inside.buffer h c.self.inside.protocol c.self.inside.called) (sym same))

pub refuse-requires-in-Tip-clause-going : goal.refuse-requires-in-Tip-clause-going
refuse-requires-in-Tip-clause-going g c =
    let l = g.L.Language.lang in
    subst (λ (is : List SessionItem). has_ended (session_in l c.self.inside.service is).events ≡ false) (sym c.make_room.ensures.items)
    (subst (λ (x : SessionState). has_ended (session_in l x.service x.items).events ≡ false) (sym c.self.view_is) c.requires.going)

pub invariant_of-self-in-Removed : goal.invariant_of-self-in-Removed
invariant_of-self-in-Removed g c =
    let l = g.L.Language.lang in
    let k = c.self.invariant in
    let inside = c.self.inside in
    let past = inside.core.past in
    let ids = c.args.versions in
    let s = session_of inside.buffer past inside.protocol inside.called in
    let st = state inside.outbox s inside.last inside.held (λ who. looked inside.jobs who) in
    let is : c.in_ok-remove.field-0 ≡ answer.Removed = search rules in
    let same : c.remove.new.self.past ≡ event.Remove ids ∷ past =
    c.in_ok-remove.ensures.past ∙ ap (λ (a : Removing). with_removal ids a past) is in
    let removed : removing (doc l past).live ids ≡ answer.Removed = sym c.in_ok-remove.ensures.answer ∙ is in
    let legal : IsLegal l (event.Remove ids ∷ past) = subst (IsLegal l) same c.remove.ensures.legal in
    let slice : c.as_slice.result.now ≡ ids = search rules in
    let risen : IsRisen c.as_slice.result.now (live_among (doc l past) ids) =
    subst (λ (xs : List ℕ). IsRisen xs (live_among (doc l past) ids)) (sym slice) (c.removed_law.ensures past ids legal.0 removed) in
    subst (λ (h : List Event). IsKept l inside.service c.add.new.self (session_of inside.buffer h inside.protocol true)
    inside.last inside.held (λ who. looked inside.jobs who)) (sym same)
    (c.change_laws.ensures.removed inside.service st c.args.message ids _
    (replied_by l inside.service inside.outbox s inside.last inside.held (λ who. looked inside.jobs who) k _ _ _ _ _ (c.in-Ok-removed_versions.ensures (live_among (doc l past) ids) risen)
    (going_on l _ _ _ s c.self.view_is k.listed c.requires.going)
    c.make_room.ensures.items c.make_room.ensures.waiting c.in-Ok.ensures.ok
    c.add.ensures.items c.add.ensures.waiting c.add.ensures.free)
    (known_inside l (λ service t. asked (mode_of service) c.args.message ≡ Ok (asks.RemoveVersions ids)) _ _ _ s
    c.self.view_is k.listed c.requires.read) removed)
