-- The separator is an ASCII character.
use Rattle.std.proofs.Common.{lit<}
use Rattle.message_values.proofs.Chunks.{cut_there}
use Rattle.message_values.proofs.cut.first_piece.Goals as goal

pub returns : goal.returns
returns c = cut_there 6 _ _ c.split_once.ensures.cases (lit< tt)
