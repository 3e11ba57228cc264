-- What stands first is no end tag.
use Rattle.std.proofs.Common.{◌∙◌}
use Rattle.message_values.proofs.Bodies.{some_first}
use Rattle.message_values.proofs.body.LentBody.is_empty.Goals as goal

pub returns-in_default : goal.returns-in_default
returns-in_default c = (
  λ yes. absurd (cc),
  λ none. absurd (some_first c.self.inside.text.now c.in-Some.first.rest.now c.in-Some.first.mark
      c.in-Some.ensures.0 c.in_default.not-Closing c.self.invariant (c.self.view_is ∙ none)),
)
