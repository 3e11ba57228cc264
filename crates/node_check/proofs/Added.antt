-- Reports that are moved to their place and added.
use Rattle.std.proofs.Common.{◌≡◌, ◌+◌, ℕ, List, [], ◌∷◌, ◌++◌, map, ap, ◌∙◌, arith}
use Rattle.std.specs.List.{sum_by}
use Rattle.std.proofs.lemmas.List.{map-append}
use Rattle.std.proofs.lemmas.List.Sums.{sum_by-append}
use Rattle.report_markup.specs.declared.report.Report.{Report}
use Rattle.report_markup.specs.Ranges.{moved}

-- the last of them moves from those that are left to those that were added
pub moved_on : (f : Report → ℕ) (start : ℕ) (all reports rest : List Report) (x : Report) → reports ≡ rest ++ x ∷ []
    → sum_by f (all ++ moved start x ∷ []) + sum_by f (map (moved start) rest)
    ≡ sum_by f all + sum_by f (map (moved start) reports)
moved_on f start all reports rest x split =
    let added = sum_by-append f all (moved start x ∷ []) in
    let whole : sum_by f (map (moved start) reports) ≡ sum_by f (map (moved start) rest ++ moved start x ∷ []) =
    ap (λ rs. sum_by f (map (moved start) rs)) split ∙ ap (sum_by f) (map-append (moved start) rest (x ∷ [])) in
    let left = sum_by-append f (map (moved start) rest) (moved start x ∷ []) in
    omega arith
