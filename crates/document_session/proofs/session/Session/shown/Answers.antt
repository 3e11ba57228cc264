use Rattle.std.proofs.Common.{ℕ, List, Ok, sym, ap, ◌∙◌}
use Rattle.std.specs.Prelude.{Vec}
use Rattle.std.specs.declared.alloc.Global.{Global}
use Rattle.message_values.specs.declared.editor_message.EditorMessage.TheVariants as asks
use Rattle.keeping_rules.specs.Items.{session_in}
use Rattle.document_session.proofs.Looked.{not_edited}
use Rattle.document_session.proofs.Passed.{passed_look}
use Rattle.document_session.proofs.session.Session.shown.Goals as goal

pub returns-in-Err-clause-looked : goal.returns-in-Err-clause-looked
returns-in-Err-clause-looked g c = c.in-Err.ensures.found c.args.edits.now

pub returns-in_err-text-in-Ok-clause-looked : goal.returns-in_err-text-in-Ok-clause-looked
returns-in_err-text-in-Ok-clause-looked g c =
    let l = g.L.Language.lang in
    let now = c.args.self.now in
    let s = session_in l now.service now.items in
    let m = asks.Snapshot c.args.version c.args.node.now c.args.edits.now in
    passed_look l now.service s m (λ (reply : Vec ℕ Global). reply.items) c.from_residual.result c.in_err-text-in-Ok.field-0.0 c.from_residual.ensures.1
    (not_edited l now.service s c.args.version c.args.node.now c.args.edits.now c.in-Ok.text.now c.in-Ok.ensures.found
    (λ (reply : Vec ℕ Global). reply.items) c.in_err-text-in-Ok.field-0.0 c.in_err-text-in-Ok.ensures.text)

pub marked-requires : goal.marked-requires
marked-requires g c = record {
  seen = record {
    before = c.in-Ok.text.now;
    found = c.in-Ok.ensures.found;
    edited = c.in_ok-text-in-Ok.ensures.text ∙ ap (λ (t : List ℕ). Ok t) (sym c.scalars.ensures);
    fits = c.in_ok-text-in-Ok.ensures.fit;
  };
}
