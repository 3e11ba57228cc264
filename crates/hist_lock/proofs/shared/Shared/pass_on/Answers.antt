use Rattle.std.proofs.Common.{rules}
use Rattle.hist_lock.proofs.Turns.{passes}
use Rattle.hist_lock.proofs.shared.Shared.pass_on.Goals as goal

pub fetch_add-requires : goal.fetch_add-requires
fetch_add-requires g c = let h = c.requires.turn in let y = c.requires.holds in
    (search rules, search rules, passes g.S.State.entries g.S.State.whose g.S.State.legal _ _ _ h.0 y.0 (search rules) h.1 y.1 y.2)
