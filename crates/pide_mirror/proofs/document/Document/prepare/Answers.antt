-- What is prepared is the editor's update.
use Rattle.std.proofs.Common.{◌≡◌, Err, ap, sym, subst, ◌∙◌, arith, length, rules}
use Rattle.std.specs.Prelude.{if◌then◌else◌}
use Rattle.std.proofs.lemmas.Bool.{lt-ltb}
use Rattle.shared_map.specs.Pairs.{IsSorted}
use Rattle.doc_nodes.specs.Names.{in_order}
use Rattle.message_values.specs.declared.refusal.Refusal.TheVariants.{VersionNotHigher}
use Rattle.buffer_rules.specs.Preparing.{prepared}
use Rattle.editor_buffer.specs.Telling.{TellsError}
use Rattle.mirror_rules.specs.Unexpected.{is_refused}
use Rattle.pide_mirror.specs.Knowing.{asked_of}
use Rattle.pide_mirror.proofs.Preparing.{fits_update, zip_length}
use Rattle.pide_mirror.proofs.document.Document.prepare.Goals as goal

pub returns-in-Ok : goal.returns-in-Ok
returns-in-Ok c = λ m is.
    let document = c.args.self.now in
    let asked = asked_of c.args.items.now c.args.blobs.now in
    let count : c.len.result ≡ length document.live.items = search rules in
    fits_update document m is c.args.id asked c.in-Ok.prepared
    (omega (arith, is.last, c.number.ensures.value, c.if-number-self.false))
    (ap (λ n. prepared document.buffer n asked) (sym count) ∙ c.in-Ok.ensures.after)
    c.in-Ok.ensures.untouched (subst (IsSorted in_order) (c.iter-sorted.ensures.all ∙ c.nodes.ensures) c.iter-sorted.ensures.sorted)
    c.known_law.ensures c.names_law.ensures c.numbers_law.ensures.differ c.numbers_law.ensures.below

pub returns-in-Err-Refused : goal.returns-in-Err-Refused
returns-in-Err-Refused c = λ m is.
    let asked = asked_of c.args.items.now c.args.blobs.now in
    let live = c.args.self.now.live.items in
    let count : c.len.result ≡ length live = search rules in
    let refused = subst (λ e. TellsError e (prepared c.args.self.now.buffer c.len.result asked)) c.in-Err-Refused.field-0-is c.in-Err-Refused.ensures.after in
    let whole = ap (λ n. prepared m.buffer n asked) (sym (zip_length _ live m.live is.live)) ∙ ap (λ b. prepared b (length live) asked) (sym is.buffer)
    ∙ ap (λ n. prepared c.args.self.now.buffer n asked) (sym count) ∙ refused in
    ap (λ b. is_refused (if b then prepared m.buffer (length m.live) asked else Err VersionNotHigher)) (lt-ltb m.last c.args.id (omega (arith, is.last, c.number.ensures.value, c.if-number-self.false)))
    ∙ ap is_refused whole
