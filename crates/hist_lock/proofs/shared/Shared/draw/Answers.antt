use Rattle.std.proofs.Common.{rules}
use Rattle.hist_lock.proofs.Tickets.{draws}
use Rattle.hist_lock.proofs.shared.Shared.draw.Goals as goal

pub fetch_add-requires : goal.fetch_add-requires
fetch_add-requires g c = (search rules, search rules, draws g.S.State.entries g.S.State.whose g.S.State.legal _ _ _ c.requires.idle)
