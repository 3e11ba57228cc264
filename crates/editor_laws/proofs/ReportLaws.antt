-- What is known of reports and symbols.
use Rattle.std.proofs.Common.{◌≡◌, ℕ, ◌+◌, ◌≤◌, List, length, map}
use Rattle.std.specs.List.{AllByRecursion}
use Rattle.report_markup.specs.declared.report.Report.{Report}
use Rattle.report_markup.specs.Sorting.{ordered_reports, IsOrderOf}
use Rattle.outer_syntax.specs.Symbols.{symbols_of}
use Rattle.symbol_markup.specs.Places.{StandsOnSymbols, symbol_place}
use Rattle.symbol_markup.specs.Told.{in_symbols, at_scalars}

-- the order of reports, and places in symbols
pub record Laws : Type 0 where
  pub order : (reports : List Report) → IsOrderOf reports (ordered_reports reports)
      × ((other : List Report) → IsOrderOf reports other → other ≡ ordered_reports reports)
  pub rises : (text : List ℕ) (place later : ℕ) → place ≤ later → symbol_place text place ≤ symbol_place text later
  pub counted : (text : List ℕ) (place : ℕ) → symbol_place text place ≤ length (symbols_of text) + 1
  pub back : (text : List ℕ) (reports : List Report) → AllByRecursion (λ r. StandsOnSymbols text r.range) reports
      → map (at_scalars text) (in_symbols text reports) ≡ ordered_reports reports
