-- Documents whose headers are the same (this project's own).
use Rattle.std.specs.Prelude.{◌≡◌, ⊤, [], ◌∷◌}
use Rattle.outer_syntax.specs.Reading.{header_in}
use Rattle.buffer_rules.specs.Sheets.{SheetList}

-- the sheets have the same names, and texts of the same headers, one by one
abbrev pub SameHeaders : SheetList → SheetList → Type 0
SameHeaders [] [] = ⊤
SameHeaders (one ∷ ones) (other ∷ others) = (one.0 ≡ other.0)
    × (header_in one.1.text ≡ header_in other.1.text) × SameHeaders ones others
SameHeaders _ _ = ⊥
