-- A thief's view is taken in as it is.
use Rattle.task_round.proofs.Moves.{merges}
use Rattle.task_round.proofs.gathering.take.Goals as goal

pub absorb-requires-clause-rule : goal.absorb-requires-clause-rule
absorb-requires-clause-rule g c = merges _ _ _ _ c.requires.part
