use Rattle.std.proofs.Common.{sym}
use Rattle.exec_assign.proofs.KeyLemmas.{lasts_lengths}
use Rattle.exec_assign.proofs.same.same_lasts.Goals as goal

pub returns-then-one-other : goal.returns-then-one-other
returns-then-one-other c = sym (lasts_lengths c.args.one.now c.args.other.now c.if-one-other.true)
