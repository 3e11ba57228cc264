-- The table of tokens: its rows in their order, and the first that fits (this project's own).
use Rattle.std.specs.Prelude.{◌≡◌, ℕ, ◌<◌, false, List, length, slice_index}
use Rattle.text_words.specs.Blanks.{is_blank}
use Rattle.text_words.specs.Identifier.{IsIdentifier}
use Rattle.text_words.specs.Longest.{IsLongest, HasNoFront}
use Rattle.outer_syntax.specs.Names.{IsNamedSymbol}
use Rattle.outer_syntax.specs.Brackets.{IsEnclosed}
use Rattle.outer_syntax.specs.Forms.{IsSpace, IsOpened, IsLongIdent}
use Rattle.outer_syntax.specs.declared.bracket.Bracket.TheVariants.{Comment, String, Cartouche}
use Rattle.outer_syntax.specs.declared.row.Row.{Row}
use Rattle.outer_syntax.specs.declared.row.Row.TheVariants.{Space, Enclosed, Error, Symbol, LongIdent, Word, Sym}

-- these scalars have the row's form. What opens and doesn't end is the row Error, to the text's end
abbrev pub HasForm : Row → List ℕ → Type 0
HasForm Space s = IsSpace s
HasForm (Enclosed b) s = IsEnclosed b s
HasForm Error s = IsOpened s
HasForm Symbol s = IsNamedSymbol s
HasForm LongIdent s = IsLongIdent s
HasForm Word s = IsIdentifier s
HasForm Sym s = length s ≡ 1

-- the rows in their order
abbrev pub rank : Row → ℕ
rank Space = 0
rank (Enclosed Comment) = 1
rank (Enclosed String) = 2
rank (Enclosed Cartouche) = 3
rank Error = 4
rank Symbol = 5
rank LongIdent = 6
rank Word = 7
rank Sym = 8

-- the first row that fits a front of the text, with its longest match
pub record IsFirstRow (text : List ℕ) (row : Row) (n : ℕ) : Type 0 where
  pub longest : IsLongest (HasForm row) text n
  pub first : (r : Row) → rank r < rank row → HasNoFront (HasForm r) text

-- the text begins with neither a blank nor an identifier
abbrev pub IsOther : List ℕ → Type 0
IsOther text =
    (0 < length text) × (is_blank (slice_index text 0) ≡ false) × HasNoFront IsIdentifier text
