-- What one thread hands back is told by the bytes that it takes.
use Rattle.pide_program.proofs.OneOutcome.{one_outcome}
use Rattle.pide_program.proofs.laws.one_outcome_law.Goals as goal

pub returns : goal.returns
returns c = one_outcome c.one_reading.ensures c.alone_law.ensures.one
