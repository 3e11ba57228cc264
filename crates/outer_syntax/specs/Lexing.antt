-- The tokens of a text as a function (this project's own).
use Rattle.std.specs.Prelude.{ℕ, zero, suc, ◌+◌, ◌-◌, ◌==◌, ◌&&◌, Bool, true, false, if◌then◌else◌, List, [], ◌∷◌, length, take, Option, None, Some}
use Rattle.std.specs.List.{list_all}
use Rattle.std.specs.Char.{is_ascii_alphabetic}
use Rattle.text_words.specs.Blanks.{is_blank}
use Rattle.text_words.specs.Identifier.{is_identifier, is_identifier_part}
use Rattle.text_words.specs.Longest.{longest_front}
use Rattle.outer_syntax.specs.Names.{is_named_symbol}
use Rattle.outer_syntax.specs.Brackets.{is_enclosed, is_opened}
use Rattle.outer_syntax.specs.Words.{kind_of}
use Rattle.outer_syntax.specs.Headings.{names_at}
use Rattle.outer_syntax.specs.Stages.{end_from}
use Rattle.outer_syntax.specs.declared.bracket.Bracket.TheVariants.{Comment, String, Cartouche}
use Rattle.outer_syntax.specs.declared.row.Row.{Row}
use Rattle.outer_syntax.specs.declared.row.Row.TheVariants.{Space, Enclosed, Error, Symbol, LongIdent, Word, Sym}
use Rattle.outer_syntax.specs.declared.stage.Stage.TheVariants.{Start}
use Rattle.outer_syntax.specs.declared.token.Token.{Token}

-- one blank or more, as a test
abbrev pub is_space : List ℕ → Bool
is_space [] = false
is_space (c ∷ s) = list_all is_blank (c ∷ s)

-- identifiers joined by dots, as a test: whether a dot came before, and whether an identifier
-- begins here
abbrev pub is_long_from : Bool → Bool → List ℕ → Bool
is_long_from dotted true [] = false
is_long_from dotted true (c ∷ s) = is_ascii_alphabetic c && is_long_from dotted false s
is_long_from dotted false [] = dotted
is_long_from dotted false (c ∷ s) =
    if is_identifier_part c then is_long_from dotted false s
    else (c == 46 && is_long_from true true s)

-- these scalars have the row's form, as a test
abbrev pub has_form : Row → List ℕ → Bool
has_form Space s = is_space s
has_form (Enclosed b) s = is_enclosed b s
has_form Error s = is_opened s
has_form Symbol s = is_named_symbol s
has_form LongIdent s = is_long_from false true s
has_form Word s = is_identifier s
has_form Sym s = length s == 1

-- a row and the length that was found of it, or else what later rows give
abbrev pub first_found : Row → Option ℕ → Row × ℕ → Row × ℕ
first_found row None later = later
first_found row (Some n) later = (row, n)

-- the first of these rows that fits the text, with its longest match; one scalar where none does
abbrev pub first_of_rows : List Row → List ℕ → Row × ℕ
first_of_rows [] text = (Sym, 1)
first_of_rows (row ∷ rows) text =
    first_found row (longest_front (has_form row) text) (first_of_rows rows text)

-- the table
abbrev pub table : List Row
table = Space ∷ Enclosed Comment ∷ Enclosed String ∷ Enclosed Cartouche
    ∷ Error ∷ Symbol ∷ LongIdent ∷ Word ∷ []

-- the first row that fits the text, with its longest match
abbrev pub first_fit : List ℕ → Row × ℕ
first_fit text = first_of_rows table text

-- the token of so many scalars and this row that begins at the place, where the text from there on
-- is given
abbrev pub token_here : (List ℕ → Bool) → ℕ → List ℕ → Row × ℕ → Token
token_here is_command place rest fit = record {
  kind = kind_of is_command fit.0 (take fit.1 rest);
  range = record { start = place; stop = place + fit.1 };
}

-- the tokens of a text that begins at the place and whose first scalars are left out
abbrev pub tokens_from : (ℕ → List ℕ → Bool) → ℕ → ℕ → List ℕ → List Token
tokens_from names left_out place [] = []
tokens_from names (suc k) place (c ∷ cs) = tokens_from names k (place + 1) cs
tokens_from names zero place (c ∷ cs) = token_here (names place) place (c ∷ cs) (first_fit (c ∷ cs))
    ∷ tokens_from names ((first_fit (c ∷ cs)).1 - 1) (place + 1) cs

-- the tokens of the text under these names, as a function
abbrev pub tokens_under : (ℕ → List ℕ → Bool) → List ℕ → List Token
tokens_under names text = tokens_from names 0 0 text

-- where the header of the text ends
abbrev pub header_end : List ℕ → Option ℕ
header_end text = end_from text Start (tokens_under (names_at None []) text)

-- the tokens of the text, as a function: `AreTokens` holds of just this list
abbrev pub tokens_of : List ℕ → List (List ℕ) → List Token
tokens_of text aliases = tokens_under (names_at (header_end text) aliases) text
