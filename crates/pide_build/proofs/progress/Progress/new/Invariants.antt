use Rattle.std.proofs.Common.{◌≡◌, ℕ, None, length, get_or}
use Rattle.pide_build.proofs.progress.Progress.new.Given as goal

-- no state is kept, and nothing is told
abbrev pub invariant-nodes : goal.invariant-nodes
invariant-nodes g l =
    (length l.behind.items ≡ l.counter) × (length l.told.items ≡ l.counter)
    × ((q : ℕ) → get_or l.behind.items q None ≡ None) × ((q : ℕ) → get_or l.told.items q None ≡ None)
