-- The rows of a node (Wenzel, ITP 2014; the numbers are this project's own).
use Rattle.std.specs.Prelude.{ℕ, suc, ◌-◌, Bool, not, ◌&&◌, if◌then◌else◌, List, [], ◌∷◌, ◌++◌, map, take, drop, Option, Some, None, is_some}
use Rattle.std.specs.Option.{option_map_or}
use Rattle.std.specs.List.{range_with_len}
use Rattle.text_words.specs.Members.{has}
use Rattle.doc_nodes.specs.declared.node.Entry.{Entry}
use Rattle.exec_rules.specs.declared.row.Row.{Row}

-- the evaluations of n commands: the first k keep theirs, the others have the next numbers
abbrev pub evaluations : List Row → ℕ → ℕ → ℕ → List ℕ
evaluations rows k n next = map (λ row. row.evaluation) (take k rows) ++ range_with_len next (n - k)

-- a print that is not cancelled
abbrev pub live_print : List ℕ → Option ℕ → Option ℕ
live_print cancelled None = None
live_print cancelled (Some print) = if has cancelled print then None else Some print

-- the prints that can be kept: those of commands that keep their evaluations
abbrev pub live_prints : List ℕ → List Row → ℕ → List (Option ℕ)
live_prints cancelled rows k = map (λ row. live_print cancelled row.print) (take k rows)

-- the first of them, which a command behind them has not
abbrev pub first_print : List (Option ℕ) → Option ℕ
first_print [] = None
first_print (print ∷ prints) = print

-- the print of a command: where it is visible, the one that it can keep, or else the next number
abbrev pub print_of : Entry → Option ℕ → ℕ → Option ℕ
print_of e live next = if e.visible then Some (option_map_or (λ print. print) live next) else None

-- a command takes the next number for its print
abbrev pub takes_print : Entry → Option ℕ → Bool
takes_print e live = e.visible && not (is_some live)

-- the next number behind it
abbrev pub number_behind : Entry → Option ℕ → ℕ → ℕ
number_behind e live next = if takes_print e live then suc next else next

-- the rows of commands with these evaluations, given the prints that can be kept
abbrev pub with_prints : List Entry → List ℕ → List (Option ℕ) → ℕ → List Row
with_prints (e ∷ es) (v ∷ vs) live next =
    record { evaluation = v; print = print_of e (first_print live) next }
    ∷ with_prints es vs (drop 1 live) (number_behind e (first_print live) next)
with_prints es vs live next = []

-- the next number behind them
abbrev pub behind_prints : List Entry → List ℕ → List (Option ℕ) → ℕ → ℕ
behind_prints (e ∷ es) (v ∷ vs) live next =
    behind_prints es vs (drop 1 live) (number_behind e (first_print live) next)
behind_prints es vs live next = next
