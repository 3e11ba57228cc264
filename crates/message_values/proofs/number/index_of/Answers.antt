-- It is the one that is printed so.
use Rattle.message_values.proofs.KnownNumbers.{index_told}
use Rattle.message_values.proofs.number.index_of.Goals as goal

pub returns : goal.returns
returns c = index_told _ _ c.number_of.ensures.some c.number_of.ensures.small c.number_of.ensures.none
