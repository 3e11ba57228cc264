-- The tokens of a text (after Isabelle's outer syntax).
use Rattle.std.specs.Prelude.{◌≡◌, ℕ, ◌<◌, ◌-◌, Bool, List, [], ◌∷◌, length, drop}
use Rattle.text_words.specs.Pieces.{text_between}
use Rattle.outer_syntax.specs.Rows.{IsFirstRow}
use Rattle.outer_syntax.specs.Words.{kind_of}
use Rattle.outer_syntax.specs.declared.row.Row.{Row}
use Rattle.outer_syntax.specs.declared.token.Token.{Token}

-- the scalars of a token
abbrev pub text_of : List ℕ → Token → List ℕ
text_of text t = text_between text t.range.start t.range.stop

-- the token is the longest match of the first row that fits the text from its start on
abbrev pub IsToken : (List ℕ → Bool) → List ℕ → Token → Type 0
IsToken is_command text t = (row : Row) × (t.range.start < t.range.stop)
    × IsFirstRow (drop t.range.start text) row (t.range.stop - t.range.start)
    × (t.kind ≡ kind_of is_command row (text_of text t))

-- the token of the text that begins at the place
abbrev pub IsTokenAt : (List ℕ → Bool) → List ℕ → ℕ → Token → Type 0
IsTokenAt is_command text place t = (t.range.start ≡ place) × IsToken is_command text t

-- the tokens of the text from one place to another, one after the other; which names are commands
-- goes by the place
abbrev pub AreTokensBetween : (ℕ → List ℕ → Bool) → List ℕ → ℕ → ℕ → List Token → Type 0
AreTokensBetween names text from to [] = from ≡ to
AreTokensBetween names text from to (t ∷ ts) = (t.range.start ≡ from)
    × IsToken (names from) text t × AreTokensBetween names text t.range.stop to ts

-- the tokens of the text under these names
abbrev pub AreTokensUnder : (ℕ → List ℕ → Bool) → List ℕ → List Token → Type 0
AreTokensUnder names text tokens = AreTokensBetween names text 0 (length text) tokens
