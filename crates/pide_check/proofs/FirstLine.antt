-- The first of some lines.
use Rattle.std.proofs.Common.{◌≡◌, ◌≤◌, List, [], ◌∷◌, ◌++◌, length, drop, slice_index_or, sym, ap, arith}
use Rattle.std.specs.List.{flat_map}
use Rattle.report_markup.specs.declared.report.Report.{Report}
use Rattle.text_check.specs.Lines.{report_line}

-- it stands before the others
pub first_line : (reports : List Report) (report : Report) → 1 ≤ length reports → report ≡ slice_index_or reports 0 report
    → flat_map report_line reports ≡ report_line report ++ flat_map report_line (drop 1 reports)
first_line [] report long is = absurd (omega arith)
first_line (r ∷ rs) report long is = ap (λ (x : Report). report_line x ++ flat_map report_line rs)
    (sym is)
