-- What holds of each report, put in order: for this crate and those above it.
use Rattle.std.proofs.Common.{Bool, true, false, List, [], ◌∷◌}
use Rattle.std.specs.List.{AllByRecursion}
use Rattle.std.specs.Ordering.{is_gt}
use Rattle.report_markup.specs.declared.report.Report.{Report}
use Rattle.report_markup.specs.Order.{report_cmp}
use Rattle.report_markup.specs.Sorting.{insert_if, insert_report, ordered_reports}

pub All-insert : (P : Report → Type 0) (r : Report) (xs : List Report) → P r → AllByRecursion P xs → AllByRecursion P (insert_report r xs)
All-insert P r [] one all = (one, tt)
All-insert P r (x ∷ xs) one all = go (is_gt (report_cmp r x)) (All-insert P r xs one all.1) where
  go : (b : Bool) → AllByRecursion P (insert_report r xs) → AllByRecursion P (insert_if b r x xs (insert_report r xs))
  go true more = (all.0, more)
  go false more = (one, all)

pub All-order : (P : Report → Type 0) (xs : List Report) → AllByRecursion P xs
    → AllByRecursion P (ordered_reports xs)
All-order P [] all = tt
All-order P (x ∷ xs) all = All-insert P x (ordered_reports xs) all.0 (All-order P xs all.1)
