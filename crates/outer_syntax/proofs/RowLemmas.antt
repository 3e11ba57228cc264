-- The rows before one, none of which fits.
use Rattle.std.proofs.Common.{◌≡◌, ℕ, zero, suc, ◌+◌, ◌<◌, ◌≤◌, List, length, sym, refl, ap, ◌∙◌, subst, ⊎_elim, arith, length-take-le}
use Rattle.std.proofs.lemmas.Bool.{cases_lt}
use Rattle.text_words.specs.Longest.{IsLongest, HasNoFront}
use Rattle.outer_syntax.specs.Rows.{HasForm, rank}
use Rattle.outer_syntax.specs.declared.bracket.Bracket.TheVariants.{Comment, String, Cartouche}
use Rattle.outer_syntax.specs.declared.row.Row.{Row}
use Rattle.outer_syntax.specs.declared.row.Row.TheVariants.{Space, Enclosed, Error, Symbol, LongIdent, Word, Sym}

-- the row of a number
row_at : ℕ → Row
row_at zero = Space
row_at (suc zero) = Enclosed Comment
row_at (suc (suc zero)) = Enclosed String
row_at (suc (suc (suc zero))) = Enclosed Cartouche
row_at (suc (suc (suc (suc zero)))) = Error
row_at (suc (suc (suc (suc (suc zero))))) = Symbol
row_at (suc (suc (suc (suc (suc (suc zero)))))) = LongIdent
row_at (suc (suc (suc (suc (suc (suc (suc zero))))))) = Word
row_at (suc (suc (suc (suc (suc (suc (suc (suc n)))))))) = Sym

row_at-rank : (r : Row) → row_at (rank r) ≡ r
unfolding row_at
row_at-rank Space = refl
row_at-rank (Enclosed Comment) = refl
row_at-rank (Enclosed String) = refl
row_at-rank (Enclosed Cartouche) = refl
row_at-rank Error = refl
row_at-rank Symbol = refl
row_at-rank LongIdent = refl
row_at-rank Word = refl
row_at-rank Sym = refl

pub same-row : (r q : Row) → rank r ≡ rank q → r ≡ q
same-row r q e = sym (row_at-rank r) ∙ ap row_at e ∙ row_at-rank q

-- none of the first k rows fits
pub record NoneBefore (text : List ℕ) (k : ℕ) : Type 0 where
  pub before : (r : Row) → rank r < k → HasNoFront (HasForm r) text

pub none-yet : (text : List ℕ) → NoneBefore text 0
none-yet text = record { before = λ r below. absurd (omega arith) }

pub none-more : (text : List ℕ) (row : Row) → NoneBefore text (rank row) → HasNoFront (HasForm row) text → NoneBefore text (rank row + 1)
none-more text row none here = record {
  before = λ r below. ⊎_elim (λ (less : rank r < rank row). none.before r less) (λ (at_least : rank row ≤ rank r). subst (λ q. HasNoFront (HasForm q) text) (same-row row r (omega arith)) here) (cases_lt (rank r) (rank row));
}

-- one scalar
pub single : (text : List ℕ) → 0 < length text → IsLongest (λ s. length s ≡ 1) text 1
single text some = record {
  within = omega arith;
  fits = length-take-le 1 text (omega arith);
  longest = λ m within one. omega (arith, length-take-le m text within, one);
}

-- no row has a greater rank
pub rank-top : (r : Row) → rank r ≤ 8
rank-top Space = omega arith
rank-top (Enclosed Comment) = omega arith
rank-top (Enclosed String) = omega arith
rank-top (Enclosed Cartouche) = omega arith
rank-top Error = omega arith
rank-top Symbol = omega arith
rank-top LongIdent = omega arith
rank-top Word = omega arith
rank-top Sym = omega arith
