-- A `str` is UTF-8, so it has scalars.
use Rattle.std.proofs.Common.{◌≡◌, Some, refl, ap, ◌∙◌}
use Rattle.message_values.specs.Each.{◌>>=◌}
use Rattle.message_values.specs.Texts.{scalars_of}
use Rattle.message_values.proofs.KnownTexts.{text_found}
use Rattle.message_values.specs.declared.editor_message.EditorMessage.TheVariants as asks
use Rattle.message_values.specs.declared.refusal.Refusal.TheVariants.{BadData}
use Rattle.message_values.specs.Asked.{or_refused}
use Rattle.message_values.proofs.KnownRefused.{not_refused}
use Rattle.pide_messages.proofs.functions.theory.Goals as goal

pub returns : goal.returns
returns c =
    let text = c.args.text.now in
    let found : scalars_of text ≡ Some c.in_ok-text.text = text_found (Some text) text text c.in_ok-text.text refl refl c.utf8.text c.in_ok-text.ensures in
    ap (λ o. or_refused BadData (o >>= λ n. scalars_of text >>= λ t. Some (asks.Theory n t))) (not_refused BadData _ _ c.in_ok-node.ensures)
    ∙ ap (λ o. or_refused BadData (o >>= λ t. Some (asks.Theory c.in_ok-node.node t))) found
