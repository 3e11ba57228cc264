-- The insertion sort of reports gives their one order.
use Rattle.std.proofs.Common.{◌≡◌, ℕ, ◌+◌, Bool, true, false, List, [], ◌∷◌, refl, sym, ap, ◌∙◌, arith, rules}
use Rattle.std.specs.declared.cmp.Ordering.{Ordering}
use Rattle.std.specs.declared.cmp.Ordering.TheVariants.{Less, Equal, Greater}
use Rattle.std.specs.Cmp.{IsTotalOrder}
use Rattle.std.specs.Cmp.Rules.{comparing}
use Rattle.std.specs.List.{sum_by}
use Rattle.std.specs.Ordering.{is_lt, is_gt, ordering_reverse}
use Rattle.std.proofs.lemmas.List.Sums.{sum_by-cons}
use Rattle.report_markup.specs.declared.report.Report.{Report}
use Rattle.report_markup.specs.Order.{report_cmp}
use Rattle.report_markup.specs.Sorting.{insert_if, insert_report, ordered_reports, IsOrderOf}
use Rattle.report_markup.proofs.Exact.{report_exact}
use Rattle.report_markup.proofs.KnownOrders.{All-insert}
use Rattle.report_markup.proofs.Ordered as ordered

pub report_total : IsTotalOrder report_cmp
report_total = search (comparing, rules) depth 12

abbrev NotBefore : Report → Report → Type 0
NotBefore = ordered.NotBefore report_cmp report_total report_exact

abbrev Rises : List Report → Type 0
Rises = ordered.Rises report_cmp report_total report_exact

insert_sum : (f : Report → ℕ) (r : Report) (xs : List Report) → sum_by f (insert_report r xs) ≡ f r + sum_by f xs
insert_sum f r [] = sum_by-cons f r []
insert_sum f r (x ∷ xs) = go (is_gt (report_cmp r x)) (insert_sum f r xs) where
  go : (b : Bool) → sum_by f (insert_report r xs) ≡ f r + sum_by f xs
      → sum_by f (insert_if b r x xs (insert_report r xs)) ≡ f r + sum_by f (x ∷ xs)
  go true more = omega (arith, sum_by-cons f x (insert_report r xs), sum_by-cons f x xs)
  go false more = sum_by-cons f r (x ∷ xs)

order_sum : (f : Report → ℕ) (xs : List Report) → sum_by f (ordered_reports xs) ≡ sum_by f xs
order_sum f [] = refl
order_sum f (x ∷ xs) = omega (
  arith,
  insert_sum f x (ordered_reports xs),
  order_sum f xs,
  sum_by-cons f x xs,
)

greater : (r x : Report) → is_gt (report_cmp r x) ≡ true → NotBefore x r
greater r x h = go (report_cmp r x) refl where
  go : (a : Ordering) → report_cmp r x ≡ a → is_lt (report_cmp r x) ≡ false
  go Less e = absurd (cc (ap is_gt e))
  go Equal e = ap is_lt e
  go Greater e = ap is_lt e

not_greater : (r x : Report) → is_gt (report_cmp r x) ≡ false → NotBefore r x
not_greater r x h = go (report_cmp r x) refl where
  go : (a : Ordering) → report_cmp r x ≡ a → is_lt (report_cmp x r) ≡ false
  go Less e = ap is_lt (report_total.antisymm x r ∙ ap ordering_reverse e)
  go Equal e = ap is_lt (report_total.antisymm x r ∙ ap ordering_reverse e)
  go Greater e = absurd (cc (ap is_gt e))

insert_rises : (r : Report) (xs : List Report) → Rises xs → Rises (insert_report r xs)
insert_rises r [] h = (tt, tt)
insert_rises r (x ∷ xs) h = go (is_gt (report_cmp r x)) refl (insert_rises r xs h.1) where
  go : (b : Bool) → is_gt (report_cmp r x) ≡ b → Rises (insert_report r xs) → Rises (insert_if b r x xs (insert_report r xs))
  go true e more = (All-insert (NotBefore x) r xs (greater r x e) h.0, more)
  go false e more =
      let first = not_greater r x e in
      ((first, ordered.All-later report_cmp report_total report_exact r x xs first h.0), h)

order_rises : (xs : List Report) → Rises (ordered_reports xs)
order_rises [] = tt
order_rises (x ∷ xs) = insert_rises x (ordered_reports xs) (order_rises xs)

pub order_is : (xs : List Report) → IsOrderOf xs (ordered_reports xs)
order_is xs = record {
  same = λ f. order_sum f xs;
  sorted = ordered.sorted report_cmp report_total report_exact (ordered_reports xs)
      (order_rises xs);
}

pub order_one : (xs ys : List Report) → IsOrderOf xs ys → ys ≡ ordered_reports xs
order_one xs ys h = ordered.one report_cmp report_total report_exact (ordered_reports xs) ys
    (order_rises xs)
    (ordered.rises report_cmp report_total report_exact ys h.sorted)
    (λ f. h.same f ∙ sym (order_sum f xs))
