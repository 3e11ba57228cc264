-- What is told so far, and what is left of the rest.
use Rattle.std.proofs.Common.{◌≡◌, ◌++◌, drop, map, filter}
use Rattle.snapshots.specs.Seen.{seen}
use Rattle.symbol_markup.specs.Told.{at_symbols, is_filled}
use Rattle.symbol_markup.proofs.told.in_symbols.Given as goal

abbrev pub invariant-loop-shown : goal.invariant-loop-shown
invariant-loop-shown l = map seen l.told.items
    ++ filter (λ r. is_filled r.range) (map (at_symbols l.text) (map seen (drop l.shown-index l.reports)))
    ≡ filter (λ r. is_filled r.range) (map (at_symbols l.text) (map seen l.reports))
