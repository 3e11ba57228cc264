-- A report put in its place among those on either side of another.
use Rattle.std.proofs.Common.{◌≡◌, Bool, true, false, List, [], ◌∷◌, ◌++◌, Result, Ok, Err, IfOk, refl, sym, ◌∙◌, ap}
use Rattle.std.specs.List.{AllByRecursion}
use Rattle.std.specs.Ordering.{is_gt}
use Rattle.report_markup.specs.declared.report.Report.{Report}
use Rattle.report_markup.specs.Order.{report_cmp}
use Rattle.report_markup.specs.Sorting.{insert_if, insert_report}
use Rattle.report_markup.specs.Standing.{StandsBefore, Stand}
use Rattle.report_markup.proofs.OrderLemmas.{NotAfter, greater_still}

-- what stands on either side of a report, and the report before the ones behind it
pub record Sides (left : List Report) (x : Report) (right : List Report) : Type 0 where
  pub front : Stand left
  pub back : Stand right
  pub below : AllByRecursion (λ y. NotAfter y x) left

later : (P : Report → Type 0) (left : List Report) (x : Report) (right : List Report) → AllByRecursion P (left ++ x ∷ right) → AllByRecursion P left × P x
later P [] x right all = (tt, all.0)
later P (y ∷ left) x right all = let more = later P left x right all.1 in ((all.0, more.0), more.1)

pub sides : (left : List Report) (x : Report) (right : List Report) → Stand (left ++ x ∷ right) → Sides left x right
sides [] x right stand = record { front = tt; back = stand.1; below = tt }
sides (y ∷ left) x right stand =
    let more = sides left x right stand.1 in
    let split = later (StandsBefore y) left x right stand.0 in
    record { front = (split.0, more.front); back = more.back; below = (split.1.0, more.below) }

at_test : (b : Bool) (r y : Report) (rest inserted : List Report) → is_gt (report_cmp r y) ≡ b
    → insert_if (is_gt (report_cmp r y)) r y rest inserted ≡ insert_if b r y rest inserted
at_test b r y rest inserted e = ap (λ t. insert_if t r y rest inserted) e

pub behind : (r x : Report) (left right : List Report) → AllByRecursion (λ y. NotAfter y x) left → is_gt (report_cmp r x) ≡ true
    → left ++ x ∷ insert_report r right ≡ insert_report r (left ++ x ∷ right)
behind r x [] right below more = sym (at_test true r x right (insert_report r right) more)
behind r x (y ∷ left) right below more =
    ap (λ l. y ∷ l) (behind r x left right below.1 more)
    ∙ sym (at_test true r y (left ++ x ∷ right) (insert_report r (left ++ x ∷ right)) (greater_still r x y more below.0))

pub before : (r x : Report) (left right : List Report) → is_gt (report_cmp r x) ≡ false
    → insert_report r left ++ x ∷ right ≡ insert_report r (left ++ x ∷ right)
before r x [] right less = sym (at_test false r x right (insert_report r right) less)
before r x (y ∷ left) right less = by (is_gt (report_cmp r y)) (before r x left right less)
  where
    by : (b : Bool) → insert_report r left ++ x ∷ right ≡ insert_report r (left ++ x ∷ right)
        → insert_if b r y left (insert_report r left) ++ x ∷ right ≡ insert_if b r y (left ++ x ∷ right) (insert_report r (left ++ x ∷ right))
    by true e = ap (λ l. y ∷ l) e
    by false e = refl

pub ok_along : {E : Type 0} (r : Result (List Report) E) (a b : List Report) → a ≡ b → IfOk r (λ made. made ≡ a) → IfOk r (λ made. made ≡ b)
ok_along (Ok made) a b e is = is ∙ e
ok_along (Err fault) a b e is = is
