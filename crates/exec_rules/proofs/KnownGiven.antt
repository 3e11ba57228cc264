-- What an update gives a node: rows, numbers, and the prints that can be kept.
use Rattle.std.proofs.Common.{◌≡◌, ℕ, zero, suc, ◌+◌, ◌-◌, ◌<◌, ◌≤◌, true, false, List, [], ◌∷◌, None, refl, sym, subst, arith, Bool, cond, drop, Option}
use Rattle.std.specs.Prelude.{slice_get}
use Rattle.std.specs.Option.{option_map_or}
use Rattle.doc_nodes.specs.declared.node.Node.{Node}
use Rattle.doc_nodes.specs.Wanted.{wanted_at}
use Rattle.exec_rules.specs.declared.key.Key.{Key}
use Rattle.exec_rules.specs.declared.row.Row.{Row}
use Rattle.exec_rules.specs.Rows.{evaluations, live_prints, first_print}
use Rattle.exec_rules.specs.Assigning.{Update, greater, given, kept_of, rows_in}
use Rattle.exec_rules.proofs.KnownNumbers.{print_numbers}

-- the rows that a node is given
abbrev pub rows_given : Update → ℕ → List ℕ × Node → Key → ℕ → List Row
rows_given u p pair key next = (given u p pair key next).assigned.rows

-- the next number rises
pub given_rises : (u : Update) (p : ℕ) (pair : List ℕ × Node) (key : Key) (next : ℕ) → next ≤ (given u p pair key next).next
given_rises u p pair key next =
    let k = kept_of u pair key in
    let n = greater k (wanted_at u.nodes p) in
    subst (λ m. next ≤ m) (sym (print_numbers pair.1 u.blobs pair.1.entries (evaluations (rows_in u.tip pair.0) k n next)
    (live_prints u.cancelled (rows_in u.tip pair.0) k) (next + (n - k)))) (omega arith)

-- the print that can be kept at a place
abbrev pub live_at : List (Option ℕ) → ℕ → Option ℕ
live_at live i = option_map_or (λ print. print) (slice_get live i) None

pub first_live : (live : List (Option ℕ)) → first_print live ≡ live_at live zero
first_live [] = refl
first_live (x ∷ xs) = refl

pub rest_live : (live : List (Option ℕ)) (i : ℕ) → live_at (drop 1 live) i ≡ live_at live (suc i)
rest_live [] i = refl
rest_live (x ∷ xs) i = refl

-- what is below the next number stays below it
pub next_below : (n m : ℕ) (b : Bool) → n < m → n < cond b (suc m) m
next_below n m true lt = omega arith
next_below n m false lt = lt
