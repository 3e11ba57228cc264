-- Reports at ranges in symbols.
use Rattle.std.specs.Prelude.{ℕ, ◌==◌, Bool, not, List, map, filter}
use Rattle.pide_base.specs.declared.range.Range.{Range}
use Rattle.report_markup.specs.declared.report.Report.{Report}
use Rattle.report_markup.specs.Sorting.{ordered_reports}
use Rattle.symbol_markup.specs.Places.{symbol_range, scalar_range}

-- the report at its range in symbols
abbrev pub at_symbols : List ℕ → Report → Report
at_symbols text r = record r { range = symbol_range text r.range }

-- the two numbers differ
abbrev pub is_filled : Range → Bool
is_filled range = not (range.start == range.stop)

-- what is told of a text's reports where places count symbols: those whose range is left with a
-- symbol, in report order by the new ranges (this project's own)
abbrev pub in_symbols : List ℕ → List Report → List Report
in_symbols text reports =
    ordered_reports (filter (λ r. is_filled r.range) (map (at_symbols text) reports))

-- a report that counts symbols, at its range in scalars
abbrev pub at_scalars : List ℕ → Report → Report
at_scalars text r = record r { range = scalar_range text r.range }
