-- What is cancelled, by a table of executions (this project's own).
use Rattle.std.specs.Prelude.{◌≡◌, ℕ, Bool, true, false, List, map, filter}
use Rattle.std.specs.Option.{option_map_or}
use Rattle.core_tables.specs.Rows.{Row, execution_of}
use Rattle.exec_rules.specs.declared.version.Version.{Version}
use Rattle.core_rules.specs.Assigned.{assigns}

-- the table has the execution, and it is cancelled there
abbrev pub is_cancelled : {R : Type 0} → List (Row R) → ℕ → Bool
is_cancelled rows e = option_map_or (λ one. one.cancelled) (execution_of rows e) false

-- the executions of a table that are cancelled
abbrev pub cancelled_in : {R : Type 0} → List (Row R) → List ℕ
cancelled_in rows = filter (is_cancelled rows) (map (λ row. row.0) rows)

-- nothing that the version assigns is cancelled in the table
abbrev pub IsQuiet : {R : Type 0} → List (Row R) → Version → Type 0
IsQuiet rows version = (e : ℕ) → assigns version e ≡ true → is_cancelled rows e ≡ false
