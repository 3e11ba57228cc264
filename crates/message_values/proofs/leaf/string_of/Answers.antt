-- It is the text that the body is.
use Rattle.std.proofs.Common.{sym, ◌∙◌}
use Rattle.message_values.proofs.KnownLent.{string_told}
use Rattle.message_values.proofs.leaf.string_of.Goals as goal

pub returns-in-Some : goal.returns-in-Some
returns-in-Some c = sym (string_told c.args.body c.in_ok-text.field-0 c.in_ok-text.ensures) ∙ c.in-Some.is

pub returns-in-None : goal.returns-in-None
returns-in-None c = sym (string_told c.args.body c.in_ok-text.field-0 c.in_ok-text.ensures) ∙ c.in-None.is
