-- The forms of the other rows of the table of tokens (after Isabelle's outer syntax).
use Rattle.std.specs.Prelude.{◌≡◌, ℕ, ◌<◌, List, ◌∷◌, ◌++◌, length, All}
use Rattle.std.specs.List.{AllPass, flat_map}
use Rattle.text_words.specs.Blanks.{is_blank}
use Rattle.text_words.specs.Identifier.{IsIdentifier}
use Rattle.outer_syntax.specs.Brackets.{opening}
use Rattle.outer_syntax.specs.declared.bracket.Bracket.{Bracket}

-- one blank or more
abbrev pub IsSpace : List ℕ → Type 0
IsSpace s = (0 < length s) × AllPass is_blank s

-- a text that begins a comment, a string or a cartouche
abbrev pub IsOpened : List ℕ → Type 0
IsOpened s = (b : Bracket) × (inside : List ℕ) × (s ≡ opening b ++ inside)

-- a dot and an identifier
abbrev pub IsDotted : List ℕ → Type 0
IsDotted s = (name : List ℕ) × IsIdentifier name × (s ≡ 46 ∷ name)

-- each of these names after a dot
abbrev pub dotted : List (List ℕ) → List ℕ
dotted names = flat_map (λ name. 46 ∷ name) names

-- an identifier, and one or more after dots
abbrev pub IsLongIdent : List ℕ → Type 0
IsLongIdent s = (name : List ℕ) × (names : List (List ℕ)) × IsIdentifier name
    × (0 < length names) × All IsIdentifier names × (s ≡ name ++ dotted names)
