-- The separator is an ASCII character.
use Rattle.std.proofs.Common.{lit<}
use Rattle.yxml.proofs.Cuts.{first_cut}
use Rattle.yxml.proofs.cut.cut_at_y.Goals as goal

pub returns : goal.returns
returns c = first_cut 6 _ _ c.split_once.ensures.cases (lit< tt)
