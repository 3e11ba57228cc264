use Rattle.std.proofs.Common.{rules}
use Rattle.hist_lock.proofs.Splits.{splits}
use Rattle.hist_lock.proofs.shared.Shared.split.Goals as goal

pub split_seat-requires : goal.split_seat-requires
split_seat-requires g c = (search rules, search rules, splits g.S.State.entries g.S.State.whose g.S.State.legal _ _ (search rules) (search rules) (search rules))
