use Rattle.std.proofs.Common.{rules}
use Rattle.hist_lock.proofs.Appends.{appends, sees_entry}
use Rattle.hist_lock.proofs.shared.Shared.append.Goals as goal

pub fetch_add-requires : goal.fetch_add-requires
fetch_add-requires g c = let h = c.requires.turn in let y = c.requires.adds in let more = y.2 in
    (search rules, search rules, appends g.S.State.entries g.S.State.whose g.S.State.legal _ _ _ h.0 y.0 more.entry h.1 y.1 more.entries_are more.callers_own more.is_legal more.short)

pub returns-clause-appended : goal.returns-clause-appended
returns-clause-appended g c = sees_entry g.S.State.entries g.S.State.whose g.S.State.legal c.args.place.now.me c.fetch_add.new.seat.me c.fetch_add.ensures.2
