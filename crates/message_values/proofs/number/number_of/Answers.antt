-- It is the one that is printed so, if it isn't too great.
use Rattle.std.proofs.Common.{sym, ap, ◌∙◌}
use Rattle.message_values.specs.Numbers.{number_of}
use Rattle.message_values.proofs.KnownNumbers.{number_complete, number_great}
use Rattle.message_values.proofs.number.number_of.Goals as goal

pub returns-in-Some : goal.returns-in-Some
returns-in-Some c = sym (ap number_of c.in-Some.ensures.some ∙ number_complete c.in-Some.number c.if-number-lt-NUMBER_END.true)

pub returns-in_default : goal.returns-in_default
returns-in_default c = number_great _ c.in-Some.number c.in-Some.ensures.some c.in-Some.ensures.small c.if-number-lt-NUMBER_END.false
