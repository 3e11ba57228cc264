-- Texts that are written of words, parentheses, strings and single spaces (this project's own).
use Rattle.std.specs.Prelude.{◌≡◌, ⊤, ℕ, ◌+◌, ◌==◌, Bool, false, List, [], ◌∷◌, ◌++◌, length}
use Rattle.std.specs.List.{AllByRecursion}
use Rattle.text_words.specs.Blanks.{is_blank}
use Rattle.text_words.specs.Identifier.{is_identifier_part, IsIdentifier}
use Rattle.outer_syntax.specs.Words.{kind_of}
use Rattle.outer_syntax.specs.declared.bracket.Bracket.TheVariants.{String}
use Rattle.outer_syntax.specs.declared.row.Row.{Row}
use Rattle.outer_syntax.specs.declared.row.Row.TheVariants.{Space, Enclosed, Word, Sym}
use Rattle.outer_syntax.specs.declared.token.Token.{Token}

-- what a text is written of: an identifier, one space, `(`, `)`, and what stands between two `"`
pub data Lexeme : Type 0 where
  word : List ℕ → Lexeme
  space : Lexeme
  opening : Lexeme
  closing : Lexeme
  quoted : List ℕ → Lexeme

-- the scalars of a lexeme
abbrev pub scalars : Lexeme → List ℕ
scalars (word x) = x
scalars space = 32 ∷ []
scalars opening = 40 ∷ []
scalars closing = 41 ∷ []
scalars (quoted u) = 34 ∷ (u ++ 34 ∷ [])

-- the text that is written so
abbrev pub text_of : List Lexeme → List ℕ
text_of [] = []
text_of (l ∷ ls) = scalars l ++ text_of ls

-- the row of a lexeme in the table of tokens
abbrev pub row_of : Lexeme → Row
row_of (word x) = Word
row_of space = Space
row_of opening = Sym
row_of closing = Sym
row_of (quoted u) = Enclosed String

-- the text goes on with no scalar of an identifier and no dot
abbrev pub EndsWord : List ℕ → Type 0
EndsWord [] = ⊤
EndsWord (c ∷ s) = (is_identifier_part c ≡ false) × ((c == 46) ≡ false)

-- the text goes on with no blank
abbrev pub EndsSpace : List ℕ → Type 0
EndsSpace [] = ⊤
EndsSpace (c ∷ s) = is_blank c ≡ false

-- the text goes on with no `*`
abbrev pub EndsSign : List ℕ → Type 0
EndsSign [] = ⊤
EndsSign (c ∷ s) = (c == 42) ≡ false

-- neither `"` nor `\`
abbrev pub IsPlain : ℕ → Type 0
IsPlain c = ((c == 34) ≡ false) × ((c == 92) ≡ false)

-- the lexeme is one token where the text goes on so
abbrev pub Fits : Lexeme → List ℕ → Type 0
Fits (word x) rest = IsIdentifier x × EndsWord rest
Fits space rest = EndsSpace rest
Fits opening rest = EndsSign rest
Fits closing rest = ⊤
Fits (quoted u) rest = AllByRecursion IsPlain u

-- each lexeme is one, where the text goes on so behind the last
abbrev pub Fitting : List Lexeme → List ℕ → Type 0
Fitting [] rest = ⊤
Fitting (l ∷ ls) rest = Fits l (text_of ls ++ rest) × Fitting ls rest

-- the lexemes as tokens, the first of which begins at the place
abbrev pub tokens_of : (List ℕ → Bool) → ℕ → List Lexeme → List Token
tokens_of is_command place [] = []
tokens_of is_command place (l ∷ ls) = record {
  kind = kind_of is_command (row_of l) (scalars l);
  range = record { start = place; stop = place + length (scalars l) };
} ∷ tokens_of is_command (place + length (scalars l)) ls
