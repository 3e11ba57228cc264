use Rattle.std.proofs.Common.{◌≡◌, ℕ, ◌<◌, ◌≤◌, length, Ok, Err, ap, subst, ◌∙◌, arith}
use Rattle.message_values.specs.declared.editor_message.EditorMessage.TheVariants as asks
use Rattle.message_values.specs.declared.refusal.Refusal.TheVariants.{VersionNotHigher}
use Rattle.message_values.specs.Asked.{asked}
use Rattle.buffer_rules.specs.Updates.{Asked}
use Rattle.buffer_rules.specs.Preparing.{prepared}
use Rattle.editor_buffer.specs.Preparation.{Preparation}
use Rattle.editor_buffer.specs.declared.fault.PrepareError.TheVariants.{Refused}
use Rattle.session_rules.specs.Services.{mode_of}
use Rattle.session_rules.specs.Session.{document}
use Rattle.keeping_rules.specs.Kept.{session_of}
use Rattle.document_session.specs.Contents.{SessionState}
use Rattle.document_session.specs.Makes.{IsMade}
use Rattle.document_session.proofs.Inside.{known_outside}
use Rattle.document_session.proofs.Making.{made_so}
use Rattle.document_session.proofs.Passed.{refused_step}
use Rattle.document_session.proofs.Refusals.{not_higher, not_prepared}
use Rattle.document_session.proofs.Refusing.{refused_outside}
use Rattle.document_session.proofs.session.Session.update.Goals as goal

pub refuse-requires-clause-refused : goal.refuse-requires-clause-refused
refuse-requires-clause-refused g c =
    let l = g.L.Language.lang in
    let inside = c.self.inside in
    let s = session_of inside.buffer inside.core.past inside.protocol inside.called in
    let wanted : Asked = record { items = c.args.items.now; blobs = c.args.blobs.now } in
    let least : c.args.version ≤ (document l s).last = omega (arith, c.number.ensures.value, c.self.invariant.last_is) in
    refused_outside l _ _ _ s c.args.message (asks.Update c.args.version wanted.items wanted.blobs) VersionNotHigher c.self.view_is
    c.self.invariant.listed c.requires.read (not_higher l inside.service s c.args.version wanted least)

pub refuse-requires-in-Err-Refused-clause-refused : goal.refuse-requires-in-Err-Refused-clause-refused
refuse-requires-in-Err-Refused-clause-refused g c =
    let l = g.L.Language.lang in
    let inside = c.self.inside in
    let s = session_of inside.buffer inside.core.past inside.protocol inside.called in
    let wanted : Asked = record { items = c.args.items.now; blobs = c.args.blobs.now } in
    let reason = c.in-Err-Refused.reason in
    let newer : (document l s).last < c.args.version = omega (arith, c.number.ensures.value, c.self.invariant.last_is) in
    let is : c.prepare.result ≡ Err (Refused reason) = cc in
    let live : length c.live-live.result.now ≡ length (document l s).live = ap length c.live-live.ensures in
    let after : prepared inside.buffer (length c.live-live.result.now) wanted ≡ Err reason =
    refused_step (λ (made : Preparation). made.after) c.prepare.result _ reason is c.prepare.ensures.after in
    rw c.in-Err-Refused.field-0-is (refused_outside l _ _ _ s c.args.message (asks.Update c.args.version wanted.items wanted.blobs) reason c.self.view_is
    c.self.invariant.listed c.requires.read (not_prepared l inside.service s c.args.version wanted newer reason
    (subst (λ (n : ℕ). prepared inside.buffer n wanted ≡ Err reason) live after)))

pub make-requires-clause-made : goal.make-requires-clause-made
make-requires-clause-made g c =
    let l = g.L.Language.lang in
    let inside = c.self.inside in
    let s = session_of inside.buffer inside.core.past inside.protocol inside.called in
    let wanted : Asked = record { items = c.args.items.now; blobs = c.args.blobs.now } in
    let made : Preparation = c.in-Ok.made in
    let newer : (document l s).last < c.args.version = omega (arith, c.number.ensures.value, c.self.invariant.last_is) in
    let live : length c.live-live.result.now ≡ length (document l s).live = ap length c.live-live.ensures in
    let asks_it : asked (mode_of inside.service) c.args.message ≡ Ok (asks.Update c.args.version wanted.items wanted.blobs) =
    ap (λ (x : SessionState). asked (mode_of x.service) c.args.message) c.self.view_is ∙ c.requires.read in
    known_outside l (λ service t. IsMade l t c.args.version (asked (mode_of service) c.args.message) made) _ _ _ s c.self.view_is
    c.self.invariant.listed (made_so l s c.args.version (asked (mode_of inside.service) c.args.message) wanted made (length c.live-live.result.now)
    asks_it newer live c.in-Ok.ensures.after c.in-Ok.ensures.untouched c.in-Ok.ensures.changed)
