-- Reports without an error: in order, and by their errors' texts.
use Rattle.std.proofs.Common.{◌≡◌, ℕ, Bool, true, false, List, [], ◌∷◌, refl, ap, ◌∙◌}
use Rattle.std.specs.Prelude.{◌&&◌, not}
use Rattle.std.specs.List.{cons_option}
use Rattle.std.specs.Ordering.{is_gt}
use Rattle.report_markup.specs.declared.kind.ReportKind.{ReportKind}
use Rattle.report_markup.specs.declared.kind.ReportKind.TheVariants.{Error}
use Rattle.report_markup.specs.declared.report.Report.{Report}
use Rattle.report_markup.specs.Order.{report_cmp}
use Rattle.report_markup.specs.Sorting.{insert_if, insert_report, ordered_reports}
use Rattle.mirror_rules.specs.Forking.{is_error, is_quiet}
use Rattle.isar_rules.specs.Kept.{error_at, errors_in}

swapped : (a b c : Bool) → (a && (b && c)) ≡ (b && (a && c))
swapped true true c = refl
swapped true false c = refl
swapped false true c = refl
swapped false false c = refl

abbrev sound : Report → Bool
sound r = not (is_error r.kind)

inserted : (r : Report) (rs : List Report) → is_quiet (insert_report r rs)
    ≡ (sound r && is_quiet rs)
inserted r [] = refl
inserted r (next ∷ rs) = go (is_gt (report_cmp r next)) (inserted r rs)
  where
    go : (b : Bool) → is_quiet (insert_report r rs) ≡ (sound r && is_quiet rs)
        → is_quiet (insert_if b r next rs (insert_report r rs))
        ≡ (sound r && (sound next && is_quiet rs))
    go true more = ap (λ b. sound next && b) more ∙ swapped (sound next) (sound r) (is_quiet rs)
    go false more = refl

pub quiet_order : (rs : List Report) → is_quiet (ordered_reports rs) ≡ is_quiet rs
quiet_order [] = refl
quiet_order (r ∷ rs) = inserted r (ordered_reports rs) ∙ ap (λ b. sound r && b) (quiet_order rs)

quiet-by : (k : ReportKind) (text : List ℕ) (more : List (List ℕ)) (b : Bool)
    → cons_option (error_at k text) more ≡ []
    → (more ≡ [] → b ≡ true) → (not (is_error k) && b) ≡ true
quiet-by Error text more b none rest = absurd (cc (none))
quiet-by _ text more b none rest = rest none

-- where no error is told there is none
pub quiet_is : (rs : List Report) → errors_in rs ≡ [] → is_quiet rs ≡ true
quiet_is [] none = refl
quiet_is (r ∷ rs) none = quiet-by r.kind r.text (errors_in rs) (is_quiet rs) none (quiet_is rs)

loud-by : (k : ReportKind) (text told : List ℕ) (more : List (List ℕ)) (b : Bool)
    → cons_option (error_at k text) more ≡ told ∷ []
    → (more ≡ told ∷ [] → b ≡ false) → (not (is_error k) && b) ≡ false
loud-by Error text told more b one rest = refl
loud-by _ text told more b one rest = rest one

-- where one is told there is one
pub loud_is : (rs : List Report) (told : List ℕ) → errors_in rs ≡ told ∷ [] → is_quiet rs ≡ false
loud_is [] told one = absurd (cc (one))
loud_is (r ∷ rs) told one = loud-by r.kind r.text told (errors_in rs) (is_quiet rs) one
    (loud_is rs told)
