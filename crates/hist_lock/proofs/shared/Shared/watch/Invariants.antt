use Rattle.std.proofs.Common.{◌≡◌}
use mathlib.Core.List.{IsPrefix}
use Rattle.hist_lock.specs.Steps.{saw}
use Rattle.hist_lock.proofs.shared.Shared.watch.Given as goal

abbrev pub invariant-watching : goal.invariant-watching
invariant-watching g l =
    let before = l.initial.place.me in let now = l.place.me in
    (goal.iterator-watching g).can_next l.iterator' × (goal.iterator-watching g).is_finite l.iterator'
    × (l.place.table_id ≡ l.initial.place.table_id) × (l.place.id ≡ l.initial.place.id)
    × IsPrefix before.0.view.seen now.0.view.seen × (now ≡ (saw before.0 now.0.view.seen before.0.view.mine, before.1))
