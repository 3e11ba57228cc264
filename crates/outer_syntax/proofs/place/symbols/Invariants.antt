use Rattle.std.proofs.Common.{length, ◌-◌, ◌≤◌}
use Rattle.outer_syntax.specs.Symbols.{AreSymbolsBetween}
use Rattle.outer_syntax.proofs.place.symbols.Given as goal

abbrev pub invariant-loop-start : goal.invariant-loop-start
invariant-loop-start l = (l.start ≤ length l.text) × AreSymbolsBetween l.text 0 l.start l.found.items

abbrev pub decreases-loop-start : goal.decreases-loop-start
decreases-loop-start l = length l.text - l.start
