-- What is counted of reports (this project's own).
use Rattle.std.specs.Prelude.{◌≡◌, List, filter, flat_map, length}
use Rattle.report_markup.specs.declared.report.Report.{Report}
use Rattle.core_jobs.specs.declared.results.PartResult.{PartResult}
use Rattle.made_document.specs.declared.tally.Tally.{Tally}
use Rattle.made_document.specs.Summary.{is_error}

-- these were counted
pub record IsTally (tally : Tally) (all : List Report) : Type 0 where
  pub reports : tally.reports ≡ length all
  pub errors : tally.errors ≡ length (filter is_error all)

-- the reports of finished parts
abbrev pub results_reports : List PartResult → List Report
results_reports parts = flat_map (λ part. part.reports.now) parts
