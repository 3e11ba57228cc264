-- The numbers of a version that an update makes are below the next one.
use Rattle.std.proofs.Common.{◌≡◌, ℕ, zero, suc, ◌+◌, ◌-◌, ◌<◌, ◌≤◌, Bool, true, false, cond, ◌&&◌, List, [], ◌∷◌, ◌++◌, map, take, drop, get_or, Option, Some, None, refl, ap, subst, arith}
use Rattle.std.specs.Prelude.{slice_get, not, is_some}
use Rattle.std.specs.List.{range_with_len}
use Rattle.std.specs.Option.{option_map_or, option_and_then}
use Rattle.doc_nodes.specs.declared.node.Entry.{Entry}
use Rattle.doc_nodes.specs.declared.node.Node.{Node}
use Rattle.doc_nodes.specs.Imports.{place_of}
use Rattle.doc_nodes.specs.Wanted.{wanted_at}
use Rattle.exec_rules.specs.declared.key.Key.{Key}
use Rattle.exec_rules.specs.declared.row.Row.{Row}
use Rattle.exec_rules.specs.declared.row.Assigned.{Assigned}
use Rattle.exec_rules.specs.Keys.{nothing_assigned}
use Rattle.exec_rules.specs.Rows.{evaluations, live_prints, first_print, print_of, number_behind, with_prints, behind_prints}
use Rattle.exec_rules.specs.Assigning.{Update, rows_in, kept_of, greater, given, assignment}
use Rattle.exec_assign.specs.Telling.{update_version}
use Rattle.exec_assign.specs.Numbered.{IsBelow, AreBelow}
use Rattle.exec_assign.proofs.RowLemmas.{behind_first}
use Rattle.exec_assign.proofs.RowSteps.{behind_rises}
use Rattle.exec_assign.proofs.DoneLemmas.{each_assigned}
use Rattle.exec_assign.proofs.OldLemmas.{front_old, live_old}

-- the numbers in a list are below this
abbrev pub NumbersBelow : ℕ → List ℕ → Type 0
NumbersBelow m vs = (i v : ℕ) → slice_get vs i ≡ Some v → v < m

abbrev pub PrintsBelow : ℕ → List (Option ℕ) → Type 0
PrintsBelow m live = (i q : ℕ) → slice_get live i ≡ Some (Some q) → q < m

abbrev pub RowsBelow : ℕ → List Row → Type 0
RowsBelow m rows = (i : ℕ) (row : Row) → slice_get rows i ≡ Some row → IsBelow m row

row_up : (m n : ℕ) (row : Row) → m ≤ n → IsBelow m row → IsBelow n row
row_up m n row le is = record {
  evaluation = omega (arith, is.evaluation);
  print = λ q e. omega (arith, is.print q e);
}

first_live : (m : ℕ) (live : List (Option ℕ)) → PrintsBelow m live → (q : ℕ) → first_print live ≡ Some q → q < m
first_live m [] old q e = absurd (cc)
first_live m (l ∷ ls) old q e = old zero q (ap (λ o. Some o) e)

rest_live : (m n : ℕ) (live : List (Option ℕ)) → m ≤ n → PrintsBelow m live → PrintsBelow n (drop 1 live)
rest_live m n [] le old i q e = absurd (cc)
rest_live m n (l ∷ ls) le old i q e = let lt = old (suc i) q e in omega arith

print_below : (seen : Bool) (live : Option ℕ) (m q : ℕ) → ((q : ℕ) → live ≡ Some q → q < m)
    → cond seen (Some (option_map_or (λ print. print) live m)) None ≡ Some q → q < cond (seen && not (is_some live)) (suc m) m
print_below true None m q old e = let same : m ≡ q = cc in omega arith
print_below true (Some p) m q old e = old q e
print_below false live m q old e = absurd (cc)

-- rows whose evaluations and kept prints are below a number
rows_below : (es : List Entry) (vs : List ℕ) (live : List (Option ℕ)) (m : ℕ) → NumbersBelow m vs → PrintsBelow m live
    → RowsBelow (behind_prints es vs live m) (with_prints es vs live m)
rows_below [] vs live m old kept i row at = absurd (cc)
rows_below (e ∷ es) [] live m old kept i row at = absurd (cc)
rows_below (e ∷ es) (v ∷ vs) live m old kept zero row at =
    let next = number_behind e (first_print live) m in
    let same : ◌≡◌ {A = Row} (record { evaluation = v; print = print_of e (first_print live) m }) row = cc in
    let up : m ≤ next = behind_first e (first_print live) m in
    let rises : next ≤ behind_prints es vs (drop 1 live) next = behind_rises es vs (drop 1 live) next in
    let lt : v < m = old zero v refl in
    subst (IsBelow (behind_prints es vs (drop 1 live) next)) same
    (row_up next (behind_prints es vs (drop 1 live) next) (record { evaluation = v; print = print_of e (first_print live) m }) rises
    (record { evaluation = omega arith; print = λ q. print_below e.visible (first_print live) m q (first_live m live kept) }))
rows_below (e ∷ es) (v ∷ vs) live m old kept (suc i) row at =
    let next = number_behind e (first_print live) m in
    let up : m ≤ next = behind_first e (first_print live) m in
    rows_below es vs (drop 1 live) next (λ j w here. let lt = old (suc j) w here in omega arith) (rest_live m next live up kept) i row at

range_below : (m d i v : ℕ) → slice_get (range_with_len m d) i ≡ Some v → v < m + d
range_below m zero i v at = absurd (cc)
range_below m (suc d) zero v at = let same : m ≡ v = cc in omega arith
range_below m (suc d) (suc i) v at = let lt = range_below (m + 1) d i v at in omega arith

both_below : (m : ℕ) (xs ys : List ℕ) → NumbersBelow m xs → NumbersBelow m ys → NumbersBelow m (xs ++ ys)
both_below m [] ys old new i v at = new i v at
both_below m (x ∷ xs) ys old new zero v at = old zero v at
both_below m (x ∷ xs) ys old new (suc i) v at = both_below m xs ys (λ j w here. old (suc j) w here) new i v at

-- what a node is given
given_below : (u : Update) (first p : ℕ) (pair : List ℕ × Node) (key : Key) (m : ℕ) → AreBelow first u.tip → first ≤ m
    → RowsBelow (given u p pair key m).next (given u p pair key m).assigned.rows
given_below u first p pair key m old le =
    let k = kept_of u pair key in
    let n = greater k (wanted_at u.nodes p) in
    let rows = rows_in u.tip pair.0 in
    let front = map (λ (row : Row). row.evaluation) (take k rows) in
    rows_below pair.1.entries (evaluations rows k n m) (live_prints u.cancelled rows k) (m + (n - k))
    (both_below (m + (n - k)) front (range_with_len m (n - k))
    (λ i v at. let lt = front_old rows k first (λ j row here. (old pair.0 j row here).evaluation) i v at in omega arith)
    (λ i v at. range_below m (n - k) i v at))
    (λ i q at. let lt = live_old u.cancelled rows k first (λ j row here. (old pair.0 j row here).print) i q at in omega arith)

-- what the version assigns to the node of a name, by its place
pub rows_named : (u : Update) (all : List Assigned) (name : List ℕ) (P : List Row → Type 0) → P []
    → ((p : ℕ) → place_of u.nodes name ≡ Some p → P (get_or all p nothing_assigned).rows) → P (rows_in (update_version u all) name)
rows_named u all name P none each = placed (place_of u.nodes name) refl
  where
    found : (xs : List Assigned) (p : ℕ) → P (get_or xs p nothing_assigned).rows → P (option_map_or (λ a. a.rows) (slice_get xs p) [])
    found [] p below = none
    found (a ∷ xs) zero below = below
    found (a ∷ xs) (suc p) below = found xs p below

    placed : (o : Option ℕ) → place_of u.nodes name ≡ o → P (option_map_or (λ a. a.rows) (option_and_then (slice_get all) o) [])
    placed None at = none
    placed (Some p) at = found all p (each p at)

-- so is the version that is made
pub made_below : (u : Update) (first : ℕ) → AreBelow first u.tip → AreBelow (assignment u first).next (update_version u (assignment u first).assigned)
made_below u first old = λ name.
    rows_named u (assignment u first).assigned name (RowsBelow (assignment u first).next) (λ i row at. absurd (cc))
    (λ p at. each_assigned u first (λ m p rows. RowsBelow m rows)
    (λ m n p rows le below i row here. row_up m n row le (below i row here))
    (λ p pair key m at le. given_below u first p pair key m old le)
    (λ m p i row here. absurd (cc)) p)
