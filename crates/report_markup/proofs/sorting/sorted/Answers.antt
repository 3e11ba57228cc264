-- Reports that stand in order are their own order.
use Rattle.std.proofs.Common.{refl, subst}
use Rattle.std.specs.List.Sorted.{IsSorted}
use Rattle.report_markup.specs.Order.{report_cmp}
use Rattle.report_markup.proofs.sorting.sorted.Goals as goal

pub returns-then-are_sorted : goal.returns-then-are_sorted
returns-then-are_sorted c = (c.one_order.ensures.one c.args.reports).1 c.args.reports (record {
  same = λ f. refl;
  sorted = subst (IsSorted report_cmp) c.as_slice.ensures (c.are_sorted.ensures c.if-are_sorted.true);
})
