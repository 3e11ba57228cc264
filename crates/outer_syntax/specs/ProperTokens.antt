-- The proper tokens of a text from a place on (this project's own).
use Rattle.std.specs.Prelude.{◌≡◌, ℕ, ◌≤◌, Bool, List, [], ◌∷◌, length, drop, Option, MatchOption}
use Rattle.outer_syntax.specs.Headings.{proper}
use Rattle.outer_syntax.specs.Lexing.{tokens_from}
use Rattle.outer_syntax.specs.declared.token.Token.{Token}

-- the proper tokens of the text from the place on, where the same names are commands all along
abbrev pub proper_from : (List ℕ → Bool) → List ℕ → ℕ → List Token
proper_from is_command text place =
    proper (tokens_from (λ _. is_command) 0 place (drop place text))

-- what is found is the first of them, and the others are those from its end on
abbrev pub IsNextProper : (List ℕ → Bool) → List ℕ → ℕ → Option Token → Type 0
IsNextProper is_command text place found =
    MatchOption found (proper_from is_command text place ≡ []) (λ t. (t.range.stop ≤ length text)
    × (proper_from is_command text place ≡ t ∷ proper_from is_command text t.range.stop))
