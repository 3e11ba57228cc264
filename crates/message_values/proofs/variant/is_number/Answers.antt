-- No number has the decimal of another.
use Rattle.message_values.proofs.KnownNumbers.{told_number, told_no_number}
use Rattle.message_values.proofs.variant.is_number.Goals as goal

pub returns-in-Some : goal.returns-in-Some
returns-in-Some c = told_number c.in-Some.found c.args.number c.args.text.now c.in-Some.ensures.small c.ranges.number.fits c.in-Some.ensures.some

pub returns-in-None : goal.returns-in-None
returns-in-None c = told_no_number c.args.number c.args.text.now c.ranges.number.fits c.in-None.ensures.none
