use Rattle.std.proofs.Common.{◌≡◌, ◌++◌, drop, map}
use Rattle.snapshots.specs.Seen.{seen}
use Rattle.symbol_markup.proofs.told.at_own_ranges.Given as goal

abbrev pub invariant-loop-report : goal.invariant-loop-report
invariant-loop-report l = map seen l.shown.items ++ drop l.report-index l.reports ≡ l.reports
