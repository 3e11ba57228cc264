use Rattle.std.proofs.Common.{◌≡◌, ℕ, Ok, Err}
use Rattle.std.specs.Prelude.{Vec}
use Rattle.std.specs.declared.alloc.Global.{Global}
use Rattle.message_values.specs.declared.editor_message.EditorMessage.TheVariants as asks
use Rattle.editor_buffer.specs.declared.fault.PrepareError.TheVariants.{Refused}
use Rattle.keeping_rules.specs.Items.{session_in}
use Rattle.document_session.proofs.Passed.{refused_look, told_look}
use Rattle.document_session.proofs.session.Session.snapshot.Goals as goal

pub refuse-requires-clause-refused : goal.refuse-requires-clause-refused
refuse-requires-clause-refused g c =
    let l = g.L.Language.lang in
    let now = c.args.self.now in
    let is : c.shown.result ≡ Err (Refused c.in-Err-Refused.reason) = cc in
    refused_look l now.service (session_in l now.service now.items) (asks.Snapshot c.args.version c.args.node.now c.args.edits.now)
    (λ (reply : Vec ℕ Global). reply.items) c.shown.result _ c.in-Err-Refused.reason c.requires.read is c.shown.ensures.looked

pub tell-requires-clause-told : goal.tell-requires-clause-told
tell-requires-clause-told g c =
    let l = g.L.Language.lang in
    let now = c.args.self.now in
    let is : c.shown.result ≡ Ok c.in-Ok.reply = cc in
    told_look l now.service (session_in l now.service now.items) (asks.Snapshot c.args.version c.args.node.now c.args.edits.now)
    (λ (reply : Vec ℕ Global). reply.items) c.shown.result _ c.in-Ok.reply c.requires.read is c.shown.ensures.looked
