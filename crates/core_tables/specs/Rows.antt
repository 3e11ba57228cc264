-- The table as a list of rows, read as a finite map from ids.
use Rattle.std.specs.Prelude.{◌≡◌, ℕ, List, ◌==◌, if◌then◌else◌, Option}
use Rattle.std.specs.Map.{lookup}
use Rattle.core_tables.specs.declared.execution.Execution.{Execution}

-- an execution of the table, with its id
abbrev pub Row : Type 0 → Type 0
Row R = ℕ × Execution R

-- what contracts see of a table: its rows, and how many more fit without memory
pub record Table (R : Type 0) : Type 0 where
  pub rows : List (Row R)
  pub room : ℕ

-- the execution of this id
abbrev pub execution_of : {R : Type 0} → List (Row R) → ℕ → Option (Execution R)
execution_of rows exec = lookup (λ x. exec == x) rows

-- the new rows have this at the id, and at every other id what the old ones have
abbrev pub Updates : {R : Type 0} → List (Row R) → List (Row R) → ℕ → Option (Execution R) → Type 0
Updates old new exec now =
    (e : ℕ) → execution_of new e ≡ (if exec == e then now else execution_of old e)
