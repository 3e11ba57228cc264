-- A text is plain, and its parts are the item's.
use Rattle.std.proofs.Common.{◌≡◌, sym, subst, ◌∙◌, arith, ◌∷◌, [], decimal, rules}
use Rattle.std.specs.Prelude.{IfOk}
use Rattle.yxml.specs.Normal.{IsPlain}
use Rattle.xml_codec.specs.Data.{string_body, variant_body}
use Rattle.made_document.specs.Texts.{text}
use Rattle.made_document.proofs.Items.{first_body}
use Rattle.made_document.proofs.Printable.{plain, text_printable}
use Rattle.made_document.proofs.bodies.first_item.Goals as goal

pub insert_body-requires : goal.insert_body-requires
insert_body-requires c = record {
  plain = subst IsPlain (sym (c.as_str.ensures.value ∙ c.in_ok-text.ensures))
      (plain (text c.args.number) (text_printable c.args.number (omega (arith, c.requires.few))));
}

pub returns : goal.returns
returns c =
    let edit_is = subst (λ r. IfOk r (λ body. body ≡ variant_body 0 (decimal 0 ∷ []) (string_body c.as_str.result.now))) c.in_ok-edit.ensures.first c.insert_body.ensures in
    subst (λ x. IfOk c.edited.result (λ body. body ≡ x))
    (first_body c.args.number c.in_ok-edit.edit c.in_ok-edit.perspective c.as_str.result.now c.requires.few
    (c.as_str.ensures.value ∙ c.in_ok-text.ensures) edit_is (search rules)) c.edited.ensures
