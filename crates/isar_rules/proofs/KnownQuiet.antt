-- Reports that are no errors, and what holds of reports that are sorted.
use Rattle.std.proofs.Common.{◌≡◌, Bool, true, false, List, [], ◌∷◌, None, refl, ap, ◌∙◌}
use Rattle.std.specs.List.{AllByRecursion, cons_option}
use Rattle.std.specs.Ordering.{is_gt}
use Rattle.report_markup.specs.declared.report.Report.{Report}
use Rattle.report_markup.specs.Order.{report_cmp}
use Rattle.report_markup.specs.Sorting.{insert_if, insert_report, ordered_reports}
use Rattle.isar_rules.specs.Kept.{error_at, errors_in}

-- sorting keeps what holds of each
module _ (P : Report → Type 0) where
  inserted : (r : Report) (rs : List Report) → P r → AllByRecursion P rs → AllByRecursion P (insert_report r rs)
  inserted r [] p all = (p, tt)
  inserted r (next ∷ rs) p all = go (is_gt (report_cmp r next)) (inserted r rs p all.1)
    where
      go : (b : Bool) → AllByRecursion P (insert_report r rs) → AllByRecursion P (insert_if b r next rs (insert_report r rs))
      go true more = (all.0, more)
      go false more = (p, all)

  pub sorted : (rs : List Report) → AllByRecursion P rs → AllByRecursion P (ordered_reports rs)
  sorted [] all = tt
  sorted (r ∷ rs) all = inserted r (ordered_reports rs) all.0 (sorted rs all.1)

abbrev pub IsQuiet : Report → Type 0
IsQuiet r = error_at r.kind r.text ≡ None

pub no_errors : (rs : List Report) → AllByRecursion IsQuiet rs → errors_in rs ≡ []
no_errors [] all = refl
no_errors (r ∷ rs) all = ap (λ o. cons_option o (errors_in rs)) all.0 ∙ no_errors rs all.1
