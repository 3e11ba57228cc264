use Rattle.std.proofs.Common.{rules}
use Rattle.hist_lock.proofs.Sights.{watches}
use Rattle.hist_lock.proofs.shared.Shared.see.Goals as goal

pub load-requires : goal.load-requires
load-requires g c = (search rules, search rules, watches g.S.State.entries g.S.State.whose g.S.State.legal _ _ _ c.requires.idle)
