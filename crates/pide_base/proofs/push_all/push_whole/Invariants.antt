use Rattle.std.proofs.Common.{◌≡◌, ◌≤◌, ◌++◌, List, ℕ, length}
use Rattle.std.specs.Io.KnownBytes.{Appends}
use Rattle.pide_base.proofs.push_all.push_whole.Given as goal

-- what is pushed so far, what is left, and a count that has not fallen
abbrev pub invariant-pushing : goal.invariant-pushing
invariant-pushing g l =
    ((front : List ℕ) × (l.bytes ≡ front ++ l.rest) × Appends (g.K.Sink.contents l.fn.sink) (g.K.Sink.contents l.sink) front)
    × (g.K.Sink.faults l.fn.sink ≤ g.K.Sink.faults l.sink)

abbrev pub decreases-pushing : goal.decreases-pushing
decreases-pushing g l = length l.rest
