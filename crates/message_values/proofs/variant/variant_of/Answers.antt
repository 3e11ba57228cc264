-- By the one element that stands in the body.
use Rattle.std.proofs.Common.{◌≡◌, [], Some, None, rules, sym, ◌∙◌}
use Rattle.message_values.specs.Shapes.{index_of}
use Rattle.message_values.proofs.KnownVariants.{variant_without, variant_unnumbered, variant_valueless, variant_there}
use Rattle.message_values.proofs.variant.variant_of.Goals as goal

pub returns-in_default : goal.returns-in_default
returns-in_default c = variant_without c.args.body c.in_default.ensures

pub returns-in_default-index_of : goal.returns-in_default-index_of
returns-in_default-index_of c =
    let none : c.take_element.new.self ≡ [] = search rules in
    let e : index_of c.in-Some.element.name.now ≡ None = search rules in
    variant_unnumbered c.args.body c.take_element.new.self _ _ _ c.in-Some.ensures none e

pub returns-in-Some-2 : goal.returns-in-Some-2
returns-in-Some-2 c =
    let none : c.take_element.new.self ≡ [] = search rules in
    let e : index_of c.in-Some.element.name.now ≡ Some c.in-Some-index_of.index = search rules in
    variant_there c.args.body c.take_element.new.self _ _ _ c.in-Some.ensures none _ _ e (sym c.in_ok-values.ensures ∙ c.in-Some-2.is)

pub returns-in-None : goal.returns-in-None
returns-in-None c =
    let none : c.take_element.new.self ≡ [] = search rules in
    let e : index_of c.in-Some.element.name.now ≡ Some c.in-Some-index_of.index = search rules in
    variant_valueless c.args.body c.take_element.new.self _ _ _ c.in-Some.ensures none _ e (sym c.in_ok-values.ensures ∙ c.in-None.is)
