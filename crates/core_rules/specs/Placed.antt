-- Where the executions of a version stand (this project's own).
use Rattle.std.specs.Prelude.{◌≡◌, ℕ, true, List, slice_get, Some}
use Rattle.text_words.specs.Members.{has}
use Rattle.exec_rules.specs.declared.row.Row.{Row}
use Rattle.exec_rules.specs.declared.version.Version.{Version}
use Rattle.exec_rules.specs.Assigning.{rows_in}
use Rattle.exec_rules.specs.Listed.{executions}

-- a row of the node of a name, which has the execution
pub record RowOf (v : Version) (e : ℕ) : Type 0 where
  pub name : List ℕ
  pub place : ℕ
  pub row : Row
  pub stands : slice_get (rows_in v name) place ≡ Some row
  pub has_it : has (executions row) e ≡ true
