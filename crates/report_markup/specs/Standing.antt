-- Reports as a markup tree keeps them.
use Rattle.std.specs.Prelude.{◌≡◌, false, List, [], ◌∷◌}
use Rattle.std.specs.List.{AllByRecursion}
use Rattle.std.specs.Ordering.{is_gt}
use Rattle.report_markup.specs.declared.report.Report.{Report}
use Rattle.report_markup.specs.Order.{report_cmp}
use Rattle.report_markup.specs.Crossing.{crosses}

-- the one may stand before the other: report order allows it, and their ranges do not cross
abbrev pub StandsBefore : Report → Report → Type 0
StandsBefore a b = (is_gt (report_cmp a b) ≡ false) × (crosses a.range b.range ≡ false)

-- each report may stand before all that follow it
abbrev pub Stand : List Report → Type 0
Stand [] = Unit {0}
Stand (r ∷ more) = AllByRecursion (StandsBefore r) more × Stand more
