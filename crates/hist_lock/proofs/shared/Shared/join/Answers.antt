use Rattle.std.proofs.Common.{rules}
use Rattle.hist_lock.proofs.Joins.{joins}
use Rattle.hist_lock.proofs.Sights.{learns}
use Rattle.hist_lock.proofs.shared.Shared.join.Goals as goal

pub join_seat-requires : goal.join_seat-requires
join_seat-requires g c = (search rules, search rules, search rules, search rules, joins g.S.State.entries g.S.State.whose g.S.State.legal _ _ _ _ (search rules) (search rules))

pub load-requires : goal.load-requires
load-requires g c = (search rules, search rules, learns g.S.State.entries g.S.State.whose g.S.State.legal _ _ _ (search rules))
