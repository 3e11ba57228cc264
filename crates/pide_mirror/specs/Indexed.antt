-- Rows found by the numbers of their commands (this project's own).
use Rattle.std.specs.Prelude.{ℕ, ◌==◌, List, [], Option}
use Rattle.std.specs.Borrow.{Bor}
use Rattle.std.specs.Map.{lookup}
use Rattle.std.specs.Option.{option_copied, option_map_or}
use Rattle.reply_messages.specs.declared.told.CommandRow.{CommandRow}

-- the row of a command in a table of rows that are lent
abbrev pub row_at : List (ℕ × Bor CommandRow) → ℕ → Option CommandRow
row_at rows command = option_copied (lookup (λ key. command == key) rows)

-- the executions of a command that has this row, or none
abbrev pub executions_in : Option CommandRow → List ℕ
executions_in row = option_map_or (λ row. row.executions) row []
