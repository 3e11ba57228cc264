-- Kept places as a table (this project's own).
use Rattle.std.specs.Prelude.{◌≡◌, ℕ, true, List, Some}
use Rattle.std.specs.Option.{option_and_then}
use Rattle.std.specs.Ordering.{nat_cmp}
use Rattle.shared_map.specs.Pairs.{found}
use Rattle.mirror_rules.specs.Reports.{PartReport}
use Rattle.pide_mirror.specs.Places.{PlaceTable, takes}
use Rattle.pide_mirror.specs.declared.place.Place.{Place}
use Rattle.pide_mirror.specs.declared.places.Places.{Places}
use Rattle.pide_mirror.specs.declared.told_part.ToldPart.{ToldPart}

-- what is kept for an execution and a command
abbrev pub table_of : Places → PlaceTable
table_of places exec command =
    option_and_then (found nat_cmp command) (found nat_cmp exec places.by_exec)

-- what is told of a part
abbrev pub as_report : ToldPart → PartReport
as_report told = record { protocol = told.protocol; part = told.part; reports = told.reports }

-- a command has the execution of what is told, and takes it
abbrev pub IsTaken : PartReport → PlaceTable → Type 0
IsTaken told table = (command : ℕ) × (place : Place)
    × (table told.part.exec command ≡ Some place) × (takes told place ≡ true)

-- one of some commands takes what is told
abbrev pub AreTaken : PartReport → List (ℕ × Place) → Type 0
AreTaken told commands = (command : ℕ) × (place : Place)
    × (found nat_cmp command commands ≡ Some place) × (takes told place ≡ true)
