-- The forms that shapes are made of: names and quoted formulas (this project's own).
use Rattle.std.specs.Prelude.{List, [], ◌∷◌, Option, Some, None}
use Rattle.outer_syntax.specs.declared.token.Token.{Token}
use Rattle.isar_rules.specs.declared.shape.Shape.{Shape}
use Rattle.isar_rules.specs.declared.shape.Spot.{Spot}
use Rattle.isar_rules.specs.Words.{Word, name, quoted, colon}

-- NAME
abbrev pub lone_name : Word → Option Spot
lone_name (name n) = Some n
lone_name _ = None

-- FORM
abbrev pub lone_formula : Word → Option Spot
lone_formula (quoted f) = Some f
lone_formula _ = None

-- NAME `:` FORM
abbrev pub named_formula : Word → Word → Word → Option (Spot × Spot)
named_formula (name n) colon (quoted f) = Some (n, f)
named_formula _ _ _ = None

-- nothing, for a command of this shape
abbrev pub alone : List Token → Shape → Option Shape
alone [] shape = Some shape
alone (t ∷ ts) shape = None
