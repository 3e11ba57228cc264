-- Which evaluations may be seen otherwise than before (this project's own).
use Rattle.std.specs.Prelude.{ℕ, ◌==◌, Bool, false, if◌then◌else◌, List, [], ◌∷◌, map, Option, is_some}
use Rattle.std.specs.Option.{option_map_or}
use Rattle.exec_rules.specs.declared.row.Row.{Row}
use Rattle.exec_rules.specs.declared.version.Version.{Version}
use Rattle.exec_rules.specs.Assigning.{rows_in}
use Rattle.update_plans.specs.declared.seeing.Sight.{Sight}
use Rattle.update_plans.specs.Beside.{is_marked}
use Rattle.update_plans.specs.Rows.{beside}

-- the evaluation of a row: its command is visible where it has a print
abbrev pub seen_of : Row → Sight
seen_of row = record { exec = row.evaluation; visible = is_some row.print }

-- those of the node of a name, unless that is marked
abbrev pub seen_in : List Bool → Version → List ℕ → List Sight
seen_in marks now name =
    if is_marked marks now.nodes name then [] else map seen_of (rows_in now name)

-- an evaluation that is seen no more
abbrev pub unseen : ℕ → Sight
unseen e = record { exec = e; visible = false }

-- the evaluation of a row, where the row at its place has another or is not there
abbrev pub hidden_of : Row → Option Row → List Sight
hidden_of row now = if option_map_or (λ r. r.evaluation == row.evaluation) now false
    then [] else unseen row.evaluation ∷ []

-- those of rows
abbrev pub hidden : List Row → List Row → List Sight
hidden rows now = beside hidden_of rows now
