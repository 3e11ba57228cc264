-- The first row of a text by what it begins with.
use Rattle.std.proofs.Common.{◌≡◌, ℕ, ◌+◌, ◌<◌, true, false, List, [], ◌∷◌, ◌++◌, length, get_or, sym, subst, arith}
use Rattle.std.specs.List.{prefix_len}
use Rattle.std.proofs.lemmas.Bool.{cond-true}
use Rattle.text_words.specs.Blanks.{is_blank}
use Rattle.text_words.specs.Identifier.{IsIdentifier}
use Rattle.text_words.specs.Longest.{IsLongest, HasNoFront}
use Rattle.outer_syntax.specs.Names.{IsNamedSymbol}
use Rattle.outer_syntax.specs.Brackets.{opening, ClosesText, IsEnclosed}
use Rattle.outer_syntax.specs.Forms.{IsSpace, IsLongIdent}
use Rattle.outer_syntax.specs.Rows.{HasForm, rank, IsFirstRow, IsOther}
use Rattle.outer_syntax.specs.declared.bracket.Bracket.{Bracket}
use Rattle.outer_syntax.specs.declared.bracket.Bracket.TheVariants.{Comment, String, Cartouche}
use Rattle.outer_syntax.specs.declared.row.Row.TheVariants.{Space, Enclosed, Error, Symbol, LongIdent, Word, Sym}
use Rattle.outer_syntax.proofs.EnclosedLemmas.{enclosed-some, enclosed-none, enclosed-unopened, opened-some, opened-none}
use Rattle.outer_syntax.proofs.LongLemmas.{long-unbegun}
use Rattle.outer_syntax.proofs.RowLemmas.{NoneBefore, none-yet, none-more, single}
use Rattle.outer_syntax.proofs.KnownBlanks.{space-some}
use Rattle.outer_syntax.proofs.KnownLeads.{unled, before-names, before-bracket, before-error}

-- a row after rows that don't fit
pub after-none : (s : List ℕ) (row : _) (n : ℕ) → NoneBefore s (rank row) → IsLongest (HasForm row) s n → IsFirstRow s row n
after-none s row n none is = record { longest = is; first = none.before }

pub blank-first : (s : List ℕ) → 0 < length s → is_blank (get_or s 0 0) ≡ true → IsFirstRow s Space (prefix_len is_blank s)
blank-first [] some blank = absurd (omega arith)
blank-first (c ∷ s) some blank =
    let more : prefix_len is_blank (c ∷ s) ≡ 1 + prefix_len is_blank s = cond-true (is_blank c) (1 + prefix_len is_blank s) 0 blank in
    after-none (c ∷ s) Space (prefix_len is_blank (c ∷ s)) (none-yet (c ∷ s)) (space-some (c ∷ s) (omega (arith, more)))

pub word-first : (s : List ℕ) (n : ℕ) → IsLongest IsIdentifier s n → HasNoFront IsLongIdent s → IsFirstRow s Word n
word-first s n name_is none = after-none s Word n (none-more s LongIdent (before-names s n name_is) none) name_is

pub long-first : (s : List ℕ) (n m : ℕ) → IsLongest IsIdentifier s n → IsLongest IsLongIdent s m → IsFirstRow s LongIdent m
long-first s n m name_is long = after-none s LongIdent m (before-names s n name_is) long

module _ (b : Bracket) (s rest : List ℕ) (n : ℕ) (size : n ≡ length (opening b)) (opens : s ≡ opening b ++ rest) where
  pub closed-first : (m : ℕ) → IsLongest (ClosesText b 1) rest m → IsFirstRow s (Enclosed b) (n + m)
  closed-first m closes =
      after-none s (Enclosed b) (n + m) (before-bracket b s rest opens)
      (subst (λ k. IsLongest (IsEnclosed b) s (k + m)) (sym size) (subst (λ t. IsLongest (IsEnclosed b) t (length (opening b) + m)) (sym opens) (enclosed-some b rest m closes)))

  pub unclosed-first : HasNoFront (ClosesText b 1) rest → IsFirstRow s Error (length s)
  unclosed-first none =
      after-none s Error (length s) (before-error b s rest opens (subst (HasNoFront (IsEnclosed b)) (sym opens) (enclosed-none b rest none)))
      (opened-some b s rest opens)

module _ (s : List ℕ) (other : IsOther s) (unopened : (b : Bracket) (inside : List ℕ) → s ≡ opening b ++ inside → ⊥) where
  no-space : (s : List ℕ) → 0 < length s → is_blank (get_or s 0 0) ≡ false → HasNoFront IsSpace s
  no-space [] some blank = absurd (omega arith)
  no-space (c ∷ s) some blank = unled Space c s blank

  before-symbol : NoneBefore s 5
  before-symbol =
      none-more s Error
      (none-more s (Enclosed Cartouche)
      (none-more s (Enclosed String)
      (none-more s (Enclosed Comment) (none-more s Space (none-yet s) (no-space s other.0 other.1)) (enclosed-unopened Comment s (unopened Comment)))
      (enclosed-unopened String s (unopened String)))
      (enclosed-unopened Cartouche s (unopened Cartouche)))
      (opened-none s unopened)

  pub symbol-first : (n : ℕ) → IsLongest IsNamedSymbol s n → IsFirstRow s Symbol n
  symbol-first n is = after-none s Symbol n before-symbol is

  pub sym-first : HasNoFront IsNamedSymbol s → IsFirstRow s Sym 1
  sym-first none =
      after-none s Sym 1 (none-more s Word (none-more s LongIdent (none-more s Symbol before-symbol none) (long-unbegun s other.2)) other.2) (single s other.0)
