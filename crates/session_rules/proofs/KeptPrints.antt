-- Which prints the rows of a node have.
use Rattle.std.proofs.Common.{◌≡◌, ℕ, zero, suc, ◌<◌, ◌≤◌, Bool, true, false, cond, List, [], ◌∷◌, length, drop, Option, Some, None, refl, ap, subst, arith}
use Rattle.std.specs.Prelude.{slice_get}
use Rattle.std.specs.Option.{option_map_or}
use Rattle.doc_nodes.specs.declared.node.Entry.{Entry}
use Rattle.exec_rules.specs.declared.row.Row.{Row}
use Rattle.exec_rules.specs.Rows.{live_print, live_prints, first_print, takes_print, print_of, number_behind, with_prints}
use Rattle.exec_rules.proofs.KnownGiven.{live_at, first_live, rest_live, next_below}
use Rattle.core_rules.specs.Doc.{Doc}
use Rattle.session_rules.specs.Keeping.{KeepsPrint}

-- inside the front it is that of the row before, where it isn't cancelled
pub live_inside : (cancelled : List ℕ) (rows : List Row) (k i : ℕ) (before : Row) → i < k → slice_get rows i ≡ Some before
    → live_at (live_prints cancelled rows k) i ≡ live_print cancelled before.print
live_inside cancelled rows zero i before lt at = absurd (omega arith)
live_inside cancelled [] (suc k) i before lt at = absurd (cc)
live_inside cancelled (x ∷ xs) (suc k) zero before lt at =
    let same : x ≡ before = cc in ap (λ (r : Row). live_print cancelled r.print) same
live_inside cancelled (x ∷ xs) (suc k) (suc i) before lt at = live_inside cancelled xs k i before (omega arith) at

-- behind it there is none
pub live_behind : (cancelled : List ℕ) (rows : List Row) (k i : ℕ) → k ≤ i → live_at (live_prints cancelled rows k) i ≡ None
live_behind cancelled rows zero i le = refl
live_behind cancelled [] (suc k) i le = refl
live_behind cancelled (x ∷ xs) (suc k) zero le = absurd (omega arith)
live_behind cancelled (x ∷ xs) (suc k) (suc i) le = live_behind cancelled xs k i (omega arith)

module _ (d : Doc) where
  first_so : (v : Bool) (live : Option ℕ) (m : ℕ) → length d.homes < m
      → KeepsPrint d live (cond v (Some (option_map_or (λ print. print) live m)) None)
  first_so false None m new = tt
  first_so false (Some x) m new = tt
  first_so true None m new = new
  first_so true (Some x) m new = refl

  -- each row has the print that can be kept, or a new one
  pub prints_at : (es : List Entry) (vs : List ℕ) (live : List (Option ℕ)) (m i : ℕ) (row : Row) → length d.homes < m
      → slice_get (with_prints es vs live m) i ≡ Some row → KeepsPrint d (live_at live i) row.print
  prints_at [] vs live m i row new at = absurd (cc)
  prints_at (e ∷ es) [] live m i row new at = absurd (cc)
  prints_at (e ∷ es) (v ∷ vs) live m zero row new at =
      let same : record { evaluation = v; print = print_of e (first_print live) m } ≡ row = cc in
      subst (λ (r : Row). KeepsPrint d (live_at live zero) r.print) same
      (subst (λ o. KeepsPrint d o (print_of e (first_print live) m)) (first_live live) (first_so e.visible (first_print live) m new))
  prints_at (e ∷ es) (v ∷ vs) live m (suc i) row new at =
      subst (λ o. KeepsPrint d o row.print) (rest_live live i)
      (prints_at es vs (drop 1 live) (number_behind e (first_print live) m) i row
      (next_below (length d.homes) m (takes_print e (first_print live)) new) at)
