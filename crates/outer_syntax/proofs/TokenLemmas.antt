-- A token more, and that a row's form has a scalar.
use Rattle.std.proofs.Common.{◌≡◌, ℕ, ◌+◌, ◌-◌, ◌<◌, Bool, List, length, take, drop, ap, subst, arith, length-take-le, length-append}
use Rattle.outer_syntax.specs.Brackets.{opening}
use Rattle.outer_syntax.specs.Forms.{dotted}
use Rattle.outer_syntax.specs.Rows.{HasForm, IsFirstRow}
use Rattle.outer_syntax.specs.Words.{kind_of}
use Rattle.outer_syntax.specs.Tokens.{IsToken, text_of}
use Rattle.outer_syntax.specs.declared.bracket.Bracket.{Bracket}
use Rattle.outer_syntax.specs.declared.bracket.Bracket.TheVariants.{Comment, String, Cartouche}
use Rattle.outer_syntax.specs.declared.row.Row.{Row}
use Rattle.outer_syntax.specs.declared.row.Row.TheVariants.{Space, Enclosed, Error, Symbol, LongIdent, Word, Sym}
use Rattle.outer_syntax.specs.declared.token.Token.{Token}
use Rattle.outer_syntax.proofs.LongLemmas.{identifier-some}

opening-some : (b : Bracket) → 0 < length (opening b)
opening-some Comment = omega arith
opening-some String = omega arith
opening-some Cartouche = omega arith

-- each form has a scalar
pub form-some : (row : Row) (s : List ℕ) → HasForm row s → 0 < length s
form-some Space s form = form.0
form-some (Enclosed b) s form = omega (arith, ap length form.1, length-append (opening b) form.0, opening-some b)
form-some Error s form = omega (arith, ap length form.2, length-append (opening form.0) form.1, opening-some form.0)
form-some Symbol s form = omega (arith, ap length form.2)
form-some LongIdent s form = omega (arith, ap length form.5, length-append form.0 (dotted form.1), identifier-some form.0 form.2)
form-some Word s form = identifier-some s form
form-some Sym s form = omega (arith, form)

pub row-some : (row : Row) (s : List ℕ) (n : ℕ) → IsFirstRow s row n → 0 < n
row-some row s n first = omega (arith, form-some row (take n s) first.longest.fits, length-take-le n s first.longest.within)

-- the token that the first row makes
pub token-of : (is_command : List ℕ → Bool) (text : List ℕ) (row : Row) (t : Token) (size : ℕ) → t.range.stop ≡ t.range.start + size → IsFirstRow (drop t.range.start text) row size → t.kind ≡ kind_of is_command row (text_of text t) → IsToken is_command text t
token-of is_command text row t size stops first kind =
    let some : 0 < size = row-some row (drop t.range.start text) size first in
    let same : size ≡ t.range.stop - t.range.start = omega arith in
    (row, omega arith, subst (IsFirstRow (drop t.range.start text) row) same first, kind)
