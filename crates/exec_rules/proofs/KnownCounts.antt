-- How many evaluations a node has, and how many it keeps, at most.
use Rattle.std.proofs.Common.{◌≡◌, ℕ, ◌-◌, ◌≤◌, Bool, true, false, cond, List, [], length, map, take, Option, Some, None, refl, ◌∙◌, arith}
use Rattle.std.proofs.lemmas.List.{length-append, length-map, length-take-le}
use Rattle.std.proofs.lemmas.List.FromFn.{length-range_with_len}
use Rattle.std.proofs.lemmas.Bool.{ltb-true, ltb-false}
use Rattle.std.specs.Prelude.{nat_lt}
use Rattle.std.specs.List.{range_with_len}
use Rattle.std.specs.Option.{option_map_or}
use Rattle.doc_nodes.specs.declared.node.Node.{Node}
use Rattle.exec_rules.specs.declared.key.Key.{Key}
use Rattle.exec_rules.specs.declared.row.Assigned.{Assigned}
use Rattle.exec_rules.specs.declared.row.Row.{Row}
use Rattle.exec_rules.specs.Rows.{evaluations}
use Rattle.exec_rules.specs.Keys.{same_key}
use Rattle.exec_rules.specs.Kept.{kept_count}
use Rattle.exec_rules.specs.Assigning.{Update, times, assigned_in, rows_in, entries_in, kept_of, greater}
use Rattle.exec_rules.proofs.KnownKept.{kept_commands, kept_rows}

-- there are as many evaluations as commands
pub evaluations_long : (rows : List Row) (k n m : ℕ) → k ≤ n → k ≤ length rows → length (evaluations rows k n m) ≡ n
evaluations_long rows k n m le lt =
    length-append (map (λ row. row.evaluation) (take k rows)) (range_with_len m (n - k))
    ∙ omega (arith, length-map (take k rows) (λ (row : Row). row.evaluation), length-take-le k rows lt, length-range_with_len m (n - k))

zero_or : (b : Bool) (n m : ℕ) → n ≤ m → cond b n 0 ≤ m
zero_or true n m le = le
zero_or false n m le = omega arith

-- no more keep their evaluations than there are commands, or rows before
pub kept_of_commands : (u : Update) (pair : List ℕ × Node) (key : Key) → kept_of u pair key ≤ length pair.1.entries
kept_of_commands u pair key = go (assigned_in u.tip pair.0)
  where
    go : (old : Option Assigned) → option_map_or (λ old. cond (same_key key old.key)
        (kept_count (times u) pair.1.entries (entries_in u.tip pair.0) old.rows) 0) old 0 ≤ length
        pair.1.entries
    go None = omega arith
    go (Some old) = zero_or (same_key key old.key) _ _
        (kept_commands (times u) pair.1.entries (entries_in u.tip pair.0) old.rows)

pub kept_of_rows : (u : Update) (pair : List ℕ × Node) (key : Key) → kept_of u pair key ≤ length (rows_in u.tip pair.0)
kept_of_rows u pair key = go (assigned_in u.tip pair.0)
  where
    go : (old : Option Assigned) → option_map_or (λ old. cond (same_key key old.key)
        (kept_count (times u) pair.1.entries (entries_in u.tip pair.0) old.rows) 0) old 0
        ≤ length (option_map_or (λ assigned. assigned.rows) old [])
    go None = omega arith
    go (Some old) = zero_or (same_key key old.key) _ _
        (kept_rows (times u) pair.1.entries (entries_in u.tip pair.0) old.rows)

-- the greater of two is within what both are within
pub all_or : (b : Bool) (n m : ℕ) → n ≤ m → cond b m n ≤ m
all_or true n m le = omega arith
all_or false n m le = le

pub greater_by : (b : Bool) (k n m : ℕ) → k ≤ m → n ≤ m → cond b n k ≤ m
greater_by true k n m a b = b
greater_by false k n m a b = a

pub greater_within : (k n m : ℕ) → k ≤ m → n ≤ m → greater k n ≤ m
greater_within k n m a b = greater_by (nat_lt k n) k n m a b

least_by : (b : Bool) (k n : ℕ) → nat_lt k n ≡ b → k ≤ cond b n k
least_by true k n e = omega (arith, ltb-true k n e)
least_by false k n e = omega arith

most_by : (b : Bool) (k n : ℕ) → nat_lt k n ≡ b → n ≤ cond b n k
most_by true k n e = omega arith
most_by false k n e = ltb-false k n e

pub greater_least : (k n : ℕ) → k ≤ greater k n
greater_least k n = least_by (nat_lt k n) k n refl

pub greater_most : (k n : ℕ) → n ≤ greater k n
greater_most k n = most_by (nat_lt k n) k n refl
