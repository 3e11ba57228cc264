-- Where no report is behind the next, none is before the one that it follows.
use Rattle.std.proofs.Common.{◌≡◌, ◌+◌, true, false, refl, ap, ◌∙◌, get_or}
use Rattle.std.proofs.lemmas.Bool.Decides.{when_true}
use Rattle.std.specs.declared.cmp.Ordering.{Ordering}
use Rattle.std.specs.declared.cmp.Ordering.TheVariants.{Less, Equal, Greater}
use Rattle.std.specs.Cmp.{IsTotalOrder}
use Rattle.std.specs.Ordering.{is_lt, is_le, ordering_reverse}
use Rattle.report_markup.specs.declared.report.Report.{Report}
use Rattle.report_markup.specs.Order.{report_cmp}
use Rattle.report_markup.proofs.sorting.are_sorted.Goals as goal

not_before : IsTotalOrder report_cmp → (a b : Report) → is_le (report_cmp a b) ≡ true → is_lt (report_cmp b a) ≡ false
not_before total a b h = go (report_cmp a b) refl where
  go : (o : Ordering) → report_cmp a b ≡ o → is_lt (report_cmp b a) ≡ false
  go Less e = ap is_lt (total.antisymm b a ∙ ap ordering_reverse e)
  go Equal e = ap is_lt (total.antisymm b a ∙ ap ordering_reverse e)
  go Greater e = absurd (cc (ap is_le e))

pub returns : goal.returns
returns c = λ sorted k d low high.
    let reports = c.args.reports.now in
    not_before c.one_order.ensures.total (get_or reports k d) (get_or reports (k + 1) d)
    (when_true _ _ sorted c.is_sorted.ensures.cases k d high)
