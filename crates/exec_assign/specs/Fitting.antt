-- Rows that fit the commands that they stand beside (this project's own).
use Rattle.std.specs.Prelude.{◌≡◌, ℕ, List, slice_get, option_map, is_some, Some}
use Rattle.doc_nodes.specs.declared.node.Entry.{Entry}
use Rattle.exec_rules.specs.declared.row.Row.{Row}
use Rattle.exec_rules.specs.declared.version.Version.{Version}
use Rattle.exec_rules.specs.Assigning.{entries_in, rows_in}

-- each row stands beside a command, and has a print exactly where that is visible
abbrev pub Fit : List Entry → List Row → Type 0
Fit entries rows = (i : ℕ) (row : Row) → slice_get rows i ≡ Some row
    → option_map (λ e. e.visible) (slice_get entries i) ≡ Some (is_some row.print)

-- the rows of each node of a version fit its commands
abbrev pub RowsFit : Version → Type 0
RowsFit version = (name : List ℕ) → Fit (entries_in version name) (rows_in version name)
