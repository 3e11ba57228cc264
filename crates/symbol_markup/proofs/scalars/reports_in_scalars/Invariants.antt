use Rattle.std.proofs.Common.{◌≡◌, take}
use Rattle.std.specs.Prelude.{map}
use Rattle.symbol_markup.specs.Told.{at_scalars}
use Rattle.symbol_markup.proofs.scalars.reports_in_scalars.Given as goal

abbrev pub invariant-reports : goal.invariant-reports
invariant-reports l = l.placed.items ≡ map (at_scalars l.text) (take l.report-index l.reports)
