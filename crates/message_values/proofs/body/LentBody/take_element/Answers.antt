-- A start tag stands first, or something else.
use Rattle.std.proofs.Common.{◌∷◌, sym, ap, ◌∙◌}
use Rattle.message_values.specs.LentMarks.{mark}
use Rattle.yxml.specs.Reading.{marks_in}
use Rattle.message_values.proofs.Bodies.{other_first, closed_inner, closed_after, element_first}
use Rattle.message_values.proofs.body.LentBody.take_element.Goals as goal

pub returns-in_default-mark : goal.returns-in_default-mark
returns-in_default-mark c = λ name attributes body more e. other_first c.self.inside.text.now c.in-Some.field-0.rest.now c.in-Some.field-0.mark
    c.in-Some.ensures.0 c.in_default-mark.not-Opening c.self.invariant name attributes body more (c.self.view_is ∙ e)

pub invariant_of-body : goal.invariant_of-body
invariant_of-body c = closed_inner c.self.inside.text.now c.in-Some.field-0.rest.now c.behind_element-self-inside.result.now _ _
    (c.in-Some.ensures.0 ∙ ap (λ m. mark m ∷ marks_in c.in-Some.field-0.rest.now) c.in-Opening.is) c.behind_element-self-inside.ensures c.self.invariant

pub invariant_of-self : goal.invariant_of-self
invariant_of-self c = closed_after c.self.inside.text.now c.in-Some.field-0.rest.now c.behind_element-self-inside.result.now _ _
    (c.in-Some.ensures.0 ∙ ap (λ m. mark m ∷ marks_in c.in-Some.field-0.rest.now) c.in-Opening.is) c.behind_element-self-inside.ensures c.self.invariant

pub returns : goal.returns
returns c = sym c.self.view_is ∙ element_first c.self.inside.text.now c.in-Some.field-0.rest.now c.behind_element-self-inside.result.now _ _
    (c.in-Some.ensures.0 ∙ ap (λ m. mark m ∷ marks_in c.in-Some.field-0.rest.now) c.in-Opening.is) c.behind_element-self-inside.ensures c.self.invariant
