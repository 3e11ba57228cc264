-- Reports that stand so: in order, treelike, and what can join them.
use Rattle.std.proofs.Common.{◌≡◌, Bool, true, false, Some, None, List, [], ◌∷◌, cond, refl, ◌∙◌, ap, inl, inr, arith}
use Rattle.std.specs.Prelude.{find, option_map}
use Rattle.std.specs.List.{AllByRecursion}
use Rattle.std.specs.Ordering.{is_gt}
use Rattle.pide_base.specs.declared.range.Range.{Range}
use Rattle.report_markup.specs.declared.report.Report.{Report}
use Rattle.report_markup.specs.Order.{report_cmp}
use Rattle.report_markup.specs.Ranges.{AreTreelike, IsTreelike}
use Rattle.report_markup.specs.Sorting.{insert_if, insert_report, ordered_reports}
use Rattle.report_markup.proofs.KnownOrders.{All-insert}
use Rattle.report_markup.specs.Crossing.{crosses, first_crossing}
use Rattle.report_markup.specs.Standing.{StandsBefore, Stand}
use Rattle.report_markup.proofs.OrderLemmas.{NotAfter, not_after, greater_turned}
use Rattle.report_markup.proofs.CrossLemmas.{turned, treelike}

-- the range crosses none
abbrev pub CrossesNone : Range → List Report → Type 0
CrossesNone range = AllByRecursion (λ y. crosses range y.range ≡ false)

pub none_crossed : (range : Range) (xs : List Report) → first_crossing range xs ≡ None → CrossesNone range xs
none_crossed range [] e = tt
none_crossed range (x ∷ xs) e = by (crosses range x.range) refl (none_crossed range xs) e
  where
    by : (b : Bool) → crosses range x.range ≡ b → (first_crossing range xs ≡ None → CrossesNone range xs)
        → option_map (λ r. r.range) (cond b (Some x) (find (λ r. crosses range r.range) xs)) ≡ None → CrossesNone range (x ∷ xs)
    by true is rest none = cc
    by false is rest none = (is, rest none)

pub crossed_none : (range : Range) (xs : List Report) → CrossesNone range xs → first_crossing range xs ≡ None
crossed_none range [] none = refl
crossed_none range (x ∷ xs) none =
    ap (λ b. option_map (λ r. r.range) (cond b (Some x) (find (λ r. crosses range r.range) xs))) none.0 ∙ crossed_none range xs none.1

behind_all : (r x : Report) (xs : List Report) → NotAfter r x → CrossesNone r.range xs → AllByRecursion (StandsBefore x) xs → AllByRecursion (StandsBefore r) xs
behind_all r x [] le none all = tt
behind_all r x (y ∷ xs) le none all = ((not_after r x y le all.0.0, none.0), behind_all r x xs le none.1 all.1)

pub joins : (r : Report) (xs : List Report) → Stand xs → CrossesNone r.range xs → Stand (insert_report r xs)
joins r [] stand none = (tt, tt)
joins r (x ∷ xs) stand none = by (is_gt (report_cmp r x)) refl (joins r xs stand.1 none.1)
  where
    by : (b : Bool) → is_gt (report_cmp r x) ≡ b → Stand (insert_report r xs) → Stand (insert_if b r x xs (insert_report r xs))
    by true more rest =
        (All-insert (StandsBefore x) r xs (greater_turned r x more, turned x.range r.range ∙ none.0) stand.0, rest)
    by false less rest = (((less, none.0), behind_all r x xs less none.1 stand.0), stand)

put_first : (r : Report) (xs : List Report) → AllByRecursion (StandsBefore r) xs → insert_report r xs ≡ r ∷ xs
put_first r [] all = refl
put_first r (x ∷ xs) all = ap (λ b. insert_if b r x xs (insert_report r xs)) all.0.0

pub ordered : (xs : List Report) → Stand xs → ordered_reports xs ≡ xs
ordered [] stand = refl
ordered (r ∷ xs) stand = ap (insert_report r) (ordered xs stand.1) ∙ put_first r xs stand.0

with_itself : (r : Report) → AreTreelike r.range r.range
with_itself r = inr (inr (inl (omega arith, omega arith)))

with_all : (r : Report) (xs : List Report) → AllByRecursion (StandsBefore r) xs → AllByRecursion (λ b. AreTreelike r.range b.range) xs
with_all r [] all = tt
with_all r (x ∷ xs) all = (treelike r.range x.range all.0.1, with_all r xs all.1)

-- each of some with one more
one_more : (r : Report) (xs ys : List Report) → AllByRecursion (StandsBefore r) xs
    → AllByRecursion (λ a. AllByRecursion (λ b. AreTreelike a.range b.range) ys) xs
    → AllByRecursion (λ a. AllByRecursion (λ b. AreTreelike a.range b.range) (r ∷ ys)) xs
one_more r [] ys all pairs = tt
one_more r (x ∷ xs) ys all pairs =
    ((treelike x.range r.range (turned x.range r.range ∙ all.0.1), pairs.0), one_more r xs ys all.1 pairs.1)

pub all_treelike : (xs : List Report) → Stand xs → IsTreelike xs
all_treelike [] stand = tt
all_treelike (r ∷ xs) stand =
    ((with_itself r, with_all r xs stand.0), one_more r xs xs stand.0 (all_treelike xs stand.1))
