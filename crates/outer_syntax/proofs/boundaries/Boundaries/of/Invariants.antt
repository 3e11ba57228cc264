use Rattle.std.proofs.Common.{◌≡◌, ℕ, ◌-◌, ◌≤◌, List, length}
use Rattle.outer_syntax.specs.Symbols.{AreSymbolsBetween}
use Rattle.outer_syntax.specs.Boundaries.{boundaries_of}
use Rattle.outer_syntax.proofs.boundaries.Boundaries.of.Given as goal

abbrev pub invariant-loop-start : goal.invariant-loop-start
invariant-loop-start l = (l.start ≤ length l.text) × ((ss : List (ℕ × ℕ)) × AreSymbolsBetween l.text 0 l.start ss × (l.places.items ≡ boundaries_of ss))

abbrev pub decreases-loop-start : goal.decreases-loop-start
decreases-loop-start l = length l.text - l.start
