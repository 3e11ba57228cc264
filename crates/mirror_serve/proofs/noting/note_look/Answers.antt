-- The mirror's answer is the session's own, and it knows what an editor knows that hears it.
use Rattle.std.proofs.Common.{rules, ◌≡◌, Err}
use Rattle.pide_base.proofs.KnownOutcomes.{on_ok_so}
use Rattle.pide_mirror.specs.declared.look_error.LookError.TheVariants as look
use Rattle.mirror_serve.proofs.Noted.{image_after, image_refusing, is_look, is_refused}
use Rattle.mirror_serve.proofs.Sees.{taken_call}
use Rattle.mirror_serve.proofs.noting.note_look.Goals as goal

pub noted-requires-clause-told : goal.noted-requires-clause-told
noted-requires-clause-told g c = is_look g.L.Language.lang c.mirror_laws.ensures c.mirror_laws.ensures.waits c.args.session.now c.args.ear.now c.requires.rests
    c.none_due.ensures c.args.message c.args.look.version c.args.look.node c.args.look.edits c.requires.read
    c.markup_of-told.result (λ bytes. bytes.items) c.protocol.result c.protocol.ensures c.markup_of-told.ensures c.in-Ok.reply c.in-Ok.is

pub refuse-requires-clause-refused : goal.refuse-requires-clause-refused
refuse-requires-clause-refused g c =
    let is : c.markup_of-told.result ≡ Err (look.Refused c.in-Err-Refused.reason) = search rules in
    is_refused g.L.Language.lang c.mirror_laws.ensures c.mirror_laws.ensures.waits c.args.session.now c.args.ear.now c.requires.rests
    c.none_due.ensures c.args.message c.args.look.version c.args.look.node c.args.look.edits c.requires.read
    c.markup_of-told.result (λ bytes. bytes.items) c.protocol.result c.protocol.ensures c.markup_of-told.ensures c.in-Err-Refused.reason is

pub returns-in-Ok-clause-image : goal.returns-in-Ok-clause-image
returns-in-Ok-clause-image g c = on_ok_so c.noted.result _ _ (λ is. (image_after g.L.Language.lang c.mirror_laws.ensures c.mirror_laws.ensures.waits c.args.session.now c.args.ear.now c.requires.rests
    c.none_due.ensures c.args.message c.args.look.version c.args.look.node c.args.look.edits c.requires.read
    c.markup_of-told.result (λ bytes. bytes.items) c.protocol.result c.protocol.ensures c.markup_of-told.ensures
    c.noted.new.self c.noted.ensures.service c.noted.ensures.legal is c.in-Ok.reply c.in-Ok.is).0) c.noted.ensures.items

pub returns-in-Ok-clause-short : goal.returns-in-Ok-clause-short
returns-in-Ok-clause-short g c = on_ok_so c.noted.result _ _ (λ is. (image_after g.L.Language.lang c.mirror_laws.ensures c.mirror_laws.ensures.waits c.args.session.now c.args.ear.now c.requires.rests
    c.none_due.ensures c.args.message c.args.look.version c.args.look.node c.args.look.edits c.requires.read
    c.markup_of-told.result (λ bytes. bytes.items) c.protocol.result c.protocol.ensures c.markup_of-told.ensures
    c.noted.new.self c.noted.ensures.service c.noted.ensures.legal is c.in-Ok.reply c.in-Ok.is).1) c.noted.ensures.items

pub returns-in_ok-refuse-in-Err-Refused-clause-items : goal.returns-in_ok-refuse-in-Err-Refused-clause-items
returns-in_ok-refuse-in-Err-Refused-clause-items g c = taken_call g.L.Language.lang c.mirror_laws.ensures c.mirror_laws.ensures.waits c.args.session.now c.args.ear.now c.requires.rests
    c.none_due.ensures c.args.message c.args.look.version c.args.look.node c.args.look.edits c.requires.read
    c.refuse.new.self.items c.in_ok-refuse-in-Err-Refused.field-0 c.in_ok-refuse-in-Err-Refused.ensures.taken

pub returns-in_ok-refuse-in-Err-Refused-clause-image : goal.returns-in_ok-refuse-in-Err-Refused-clause-image
returns-in_ok-refuse-in-Err-Refused-clause-image g c =
    let is : c.markup_of-told.result ≡ Err (look.Refused c.in-Err-Refused.reason) = search rules in
    let items = taken_call g.L.Language.lang c.mirror_laws.ensures c.mirror_laws.ensures.waits c.args.session.now c.args.ear.now c.requires.rests
    c.none_due.ensures c.args.message c.args.look.version c.args.look.node c.args.look.edits c.requires.read
    c.refuse.new.self.items c.in_ok-refuse-in-Err-Refused.field-0 c.in_ok-refuse-in-Err-Refused.ensures.taken in
    (image_refusing g.L.Language.lang c.mirror_laws.ensures c.mirror_laws.ensures.waits c.args.session.now c.args.ear.now c.requires.rests
    c.none_due.ensures c.args.message c.args.look.version c.args.look.node c.args.look.edits c.requires.read
    c.markup_of-told.result (λ bytes. bytes.items) c.protocol.result c.protocol.ensures c.markup_of-told.ensures
    c.refuse.new.self c.refuse.ensures.service c.refuse.ensures.legal items c.in-Err-Refused.reason is).0

pub returns-in_ok-refuse-in-Err-Refused-clause-short : goal.returns-in_ok-refuse-in-Err-Refused-clause-short
returns-in_ok-refuse-in-Err-Refused-clause-short g c =
    let is : c.markup_of-told.result ≡ Err (look.Refused c.in-Err-Refused.reason) = search rules in
    let items = taken_call g.L.Language.lang c.mirror_laws.ensures c.mirror_laws.ensures.waits c.args.session.now c.args.ear.now c.requires.rests
    c.none_due.ensures c.args.message c.args.look.version c.args.look.node c.args.look.edits c.requires.read
    c.refuse.new.self.items c.in_ok-refuse-in-Err-Refused.field-0 c.in_ok-refuse-in-Err-Refused.ensures.taken in
    (image_refusing g.L.Language.lang c.mirror_laws.ensures c.mirror_laws.ensures.waits c.args.session.now c.args.ear.now c.requires.rests
    c.none_due.ensures c.args.message c.args.look.version c.args.look.node c.args.look.edits c.requires.read
    c.markup_of-told.result (λ bytes. bytes.items) c.protocol.result c.protocol.ensures c.markup_of-told.ensures
    c.refuse.new.self c.refuse.ensures.service c.refuse.ensures.legal items c.in-Err-Refused.reason is).1
