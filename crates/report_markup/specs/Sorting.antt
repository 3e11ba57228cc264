-- Lists of reports put in order.
use Rattle.std.specs.Prelude.{◌≡◌, ℕ, List, [], ◌∷◌, Bool, true, false}
use Rattle.std.specs.List.{sum_by}
use Rattle.std.specs.List.Sorted.{IsSorted}
use Rattle.std.specs.Ordering.{is_gt}
use Rattle.report_markup.specs.declared.report.Report.{Report}
use Rattle.report_markup.specs.Order.{report_cmp}

-- a report put before the first that it is not greater than
abbrev pub insert_if : Bool → Report → Report → List Report → List Report → List Report
insert_if true r next rest inserted = next ∷ inserted
insert_if false r next rest inserted = r ∷ next ∷ rest

-- a report put in its place among sorted ones
abbrev pub insert_report : Report → List Report → List Report
insert_report r [] = r ∷ []
insert_report r (next ∷ rest) =
    insert_if (is_gt (report_cmp r next)) r next rest (insert_report r rest)

-- the reports in report order (this project's own)
abbrev pub ordered_reports : List Report → List Report
ordered_reports [] = []
ordered_reports (r ∷ rs) = insert_report r (ordered_reports rs)

-- the second list has the reports of the first, each as often, in report order
pub record IsOrderOf (reports ordered : List Report) : Type 0 where
  pub same : (measure : Report → ℕ) → sum_by measure ordered ≡ sum_by measure reports
  pub sorted : IsSorted report_cmp ordered
