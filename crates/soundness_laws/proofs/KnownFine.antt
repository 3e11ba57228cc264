-- Reports without errors, however they are ordered or moved.
use Rattle.std.proofs.Common.{◌≡◌, ℕ, Bool, true, false, List, [], ◌∷◌, ◌++◌, Option, Some, None, map, refl, sym, subst}
use Rattle.std.specs.Ordering.{is_gt}
use Rattle.std.specs.List.{AllByRecursion, cons_option}
use Rattle.report_markup.specs.declared.report.Report.{Report}
use Rattle.report_markup.specs.Order.{report_cmp}
use Rattle.report_markup.specs.Ranges.{moved}
use Rattle.report_markup.specs.Sorting.{ordered_reports, insert_if, insert_report}
use Rattle.isar_rules.specs.Kept.{error_at, errors_in}

-- none of the reports is an error
abbrev pub AreFine : List Report → Type 0
AreFine = AllByRecursion (λ r. error_at r.kind r.text ≡ None)

pub fine : (rs : List Report) → errors_in rs ≡ [] → AreFine rs
fine [] e = tt
fine (r ∷ rs) e = go (error_at r.kind r.text) refl (fine rs) e
  where
    go : (o : Option (List ℕ)) → error_at r.kind r.text ≡ o → (errors_in rs ≡ [] → AreFine rs)
        → cons_option o (errors_in rs) ≡ [] → AreFine (r ∷ rs)
    go None at rest e = (at, rest e)
    go (Some text) at rest e = absurd (let no : ⊥ = cc in no)

pub without_errors : (rs : List Report) → AreFine rs → errors_in rs ≡ []
without_errors [] f = refl
without_errors (r ∷ rs) f = subst (λ o. cons_option o (errors_in rs) ≡ []) (sym f.0) (without_errors rs f.1)

inserted : (r : Report) (rs : List Report) → AreFine (insert_report r rs) → AreFine (r ∷ rs)
inserted r [] f = f
inserted r (next ∷ rest) f = go (is_gt (report_cmp r next)) (inserted r rest) f
  where
    go : (b : Bool) → (AreFine (insert_report r rest) → AreFine (r ∷ rest))
        → AreFine (insert_if b r next rest (insert_report r rest)) → AreFine (r ∷ next ∷ rest)
    go true more f = (let both = more f.1 in (both.0, (f.0, both.1)))
    go false more f = f

pub unordered : (rs : List Report) → AreFine (ordered_reports rs) → AreFine rs
unordered [] f = tt
unordered (r ∷ rs) f = let both = inserted r (ordered_reports rs) f in
    (both.0, unordered rs both.1)

pub unmoved : (n : ℕ) (rs : List Report) → AreFine (map (moved n) rs) → AreFine rs
unmoved n [] f = tt
unmoved n (r ∷ rs) f = (f.0, unmoved n rs f.1)

pub front : (rs more : List Report) → AreFine (rs ++ more) → AreFine rs
front [] more f = tt
front (r ∷ rs) more f = (f.0, front rs more f.1)

pub behind : (rs more : List Report) → AreFine (rs ++ more) → AreFine more
behind [] more f = f
behind (r ∷ rs) more f = behind rs more f.1

pub both : (rs more : List Report) → AreFine rs → AreFine more → AreFine (rs ++ more)
both [] more f g = g
both (r ∷ rs) more f g = (f.0, both rs more f.1 g)
