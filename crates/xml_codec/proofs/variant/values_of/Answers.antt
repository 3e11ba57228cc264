-- An attribute with another key is numbered in no way.
use Rattle.std.proofs.Common.{◌≡◌, true, ap, sym, ◌∙◌, decimal}
use Rattle.xml_codec.proofs.Numbered.{misnumbered}
use Rattle.xml_codec.proofs.variant.values_of.Goals as goal

pub returns-then-not-is_number : goal.returns-then-not-is_number
returns-then-not-is_number c = misnumbered _ _ _ _ _ c.loop-attribute.invariant c.in-Some.ensures
    (λ e. let told : c.is_number.result ≡ true = c.is_number.ensures.1 (c.as_str.ensures ∙ e ∙ ap decimal (sym c.len.ensures)) in
    cc (told, c.if-not-is_number.true))
