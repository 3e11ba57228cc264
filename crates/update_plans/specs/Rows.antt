-- Rows beside the rows at their places now (this project's own).
use Rattle.std.specs.Prelude.{ℕ, not, List, [], ◌∷◌, ◌++◌, filter, drop, slice_get, Option}
use Rattle.text_words.specs.Members.{has}
use Rattle.exec_rules.specs.declared.row.Row.{Row}
use Rattle.exec_rules.specs.Listed.{executions}
use Rattle.exec_assign.specs.Told.{told_row}

-- what comes of rows, each with the row at its place now
abbrev pub beside : {X : Type 0} → (Row → Option Row → List X) → List Row → List Row → List X
beside of [] now = []
beside of (row ∷ rows) now = of row (slice_get now 0) ++ beside of rows (drop 1 now)

-- the executions of a row that the row at its place has not
abbrev pub lost_of : Row → Option Row → List ℕ
lost_of row now = filter (λ e. not (has (told_row now) e)) (executions row)

-- those of rows
abbrev pub lost : List Row → List Row → List ℕ
lost rows now = beside lost_of rows now
