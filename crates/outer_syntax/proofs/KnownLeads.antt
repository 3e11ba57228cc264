-- What each row begins with, and so which rows don't fit a text.
use Rattle.std.proofs.Common.{◌≡◌, ◌⊎◌, ℕ, zero, suc, ◌||◌, ◌==◌, ◌<◌, Bool, true, false, List, [], ◌∷◌, ◌++◌, take, sym, refl, ap, ◌∙◌, subst, inl, inr, ⊎_elim, arith}
use Rattle.std.specs.Char.{is_ascii_alphabetic}
use Rattle.std.proofs.lemmas.Bool.{both_ways, eqb-true}
use Rattle.text_words.specs.Blanks.{is_blank}
use Rattle.text_words.specs.Identifier.{IsIdentifier}
use Rattle.text_words.specs.Longest.{IsLongest, HasNoFront}
use Rattle.outer_syntax.specs.Brackets.{opening, IsEnclosed}
use Rattle.outer_syntax.specs.Rows.{HasForm, rank}
use Rattle.outer_syntax.specs.declared.bracket.Bracket.{Bracket}
use Rattle.outer_syntax.specs.declared.bracket.Bracket.TheVariants.{Comment, String, Cartouche}
use Rattle.outer_syntax.specs.declared.row.Row.{Row}
use Rattle.outer_syntax.specs.declared.row.Row.TheVariants.{Space, Enclosed, Error, Symbol, LongIdent, Word, Sym}
use Rattle.outer_syntax.proofs.RowLemmas.{NoneBefore}
use Rattle.outer_syntax.proofs.TokenLemmas.{form-some}

-- what the form of a row may begin with
abbrev pub lead : Row → ℕ → Bool
lead Space c = is_blank c
lead (Enclosed Comment) c = c == 40
lead (Enclosed String) c = c == 34
lead (Enclosed Cartouche) c = c == 92
lead Error c = c == 40 || (c == 34 || c == 92)
lead Symbol c = c == 92
lead LongIdent c = is_ascii_alphabetic c
lead Word c = is_ascii_alphabetic c
lead Sym c = true

form-lead : (r : Row) (c : ℕ) (s : List ℕ) → HasForm r (c ∷ s) → lead r c ≡ true
form-lead Space c s form = form.1 0 0 (omega arith)
form-lead (Enclosed Comment) c s form = let same : c ≡ 40 = cc (form.1) in ap (lead (Enclosed Comment)) same
form-lead (Enclosed String) c s form = let same : c ≡ 34 = cc (form.1) in ap (lead (Enclosed String)) same
form-lead (Enclosed Cartouche) c s form = let same : c ≡ 92 = cc (form.1) in ap (lead (Enclosed Cartouche)) same
form-lead Error c s (Comment, inside, e) = let same : c ≡ 40 = cc (e) in ap (lead Error) same
form-lead Error c s (String, inside, e) = let same : c ≡ 34 = cc (e) in ap (lead Error) same
form-lead Error c s (Cartouche, inside, e) = let same : c ≡ 92 = cc (e) in ap (lead Error) same
form-lead Symbol c s form = let same : c ≡ 92 = cc (form.2) in ap (lead Symbol) same
form-lead LongIdent c s ([], names, id, some, each, e) = absurd id
form-lead LongIdent c s (x ∷ xs, names, id, some, each, e) = let same : c ≡ x = cc (e) in ap (lead LongIdent) same ∙ id.0
form-lead Word c s form = form.0
form-lead Sym c s form = refl

-- a row that doesn't begin so doesn't fit
pub unled : (r : Row) (c : ℕ) (s : List ℕ) → lead r c ≡ false → HasNoFront (HasForm r) (c ∷ s)
unled r c s other zero within form = omega (arith, form-some r [] form)
unled r c s other (suc m) within form = both_ways (lead r c) other (form-lead r c (take m s) form)

-- what passes a test that a number fails isn't the number
pub apart : (p : ℕ → Bool) (d c : ℕ) → p d ≡ false → p c ≡ true → (c == d) ≡ false
apart p d c fails passes = go (c == d) refl where
  go : (b : Bool) → (c == d) ≡ b → (c == d) ≡ false
  go true e = absurd (both_ways (p c) (ap p (eqb-true c d e) ∙ fails) passes)
  go false e = e

-- a letter begins no form of the rows before those of identifiers
pub letter-unled : (r : Row) (c : ℕ) → is_ascii_alphabetic c ≡ true → rank r < 6 → lead r c ≡ false
letter-unled Space c letter low =
    let isnt = λ (d : ℕ) (fails : is_ascii_alphabetic d ≡ false). apart is_ascii_alphabetic d c fails letter in
    λ i. ((isnt 32 refl i || isnt 9 refl i) || isnt 13 refl i) || isnt 10 refl i
letter-unled (Enclosed Comment) c letter low = apart is_ascii_alphabetic 40 c refl letter
letter-unled (Enclosed String) c letter low = apart is_ascii_alphabetic 34 c refl letter
letter-unled (Enclosed Cartouche) c letter low = apart is_ascii_alphabetic 92 c refl letter
letter-unled Error c letter low =
    let isnt = λ (d : ℕ) (fails : is_ascii_alphabetic d ≡ false). apart is_ascii_alphabetic d c fails letter in
    λ i. isnt 40 refl i || (isnt 34 refl i || isnt 92 refl i)
letter-unled Symbol c letter low = apart is_ascii_alphabetic 92 c refl letter
letter-unled LongIdent c letter low = absurd (omega arith)
letter-unled Word c letter low = absurd (omega arith)
letter-unled Sym c letter low = absurd (omega arith)

-- no row before the identifiers fits a text that begins with one
pub before-names : (s : List ℕ) (n : ℕ) → IsLongest IsIdentifier s n → NoneBefore s 6
before-names s zero name_is = absurd (name_is.fits)
before-names [] (suc n) name_is = absurd (omega (arith, name_is.within))
before-names (c ∷ s) (suc n) name_is = record { before = λ r low. unled r c s (letter-unled r c name_is.fits.0 low) }

-- the first scalar of an opening
abbrev first_of : Bracket → ℕ
first_of Comment = 40
first_of String = 34
first_of Cartouche = 92

-- the rows before Error begin otherwise, but for the bracket's own
other-led : (b : Bracket) (r : Row) → rank r < 4 → (lead r (first_of b) ≡ false) ⊎ (Enclosed b ≡ r)
other-led Comment Space low = inl refl
other-led Comment (Enclosed Comment) low = inr refl
other-led Comment (Enclosed String) low = inl refl
other-led Comment (Enclosed Cartouche) low = inl refl
other-led String Space low = inl refl
other-led String (Enclosed Comment) low = inl refl
other-led String (Enclosed String) low = inr refl
other-led String (Enclosed Cartouche) low = inl refl
other-led Cartouche Space low = inl refl
other-led Cartouche (Enclosed Comment) low = inl refl
other-led Cartouche (Enclosed String) low = inl refl
other-led Cartouche (Enclosed Cartouche) low = inr refl
other-led b Error low = absurd (omega arith)
other-led b Symbol low = absurd (omega arith)
other-led b LongIdent low = absurd (omega arith)
other-led b Word low = absurd (omega arith)
other-led b Sym low = absurd (omega arith)

unled-opening : (b : Bracket) (r : Row) (inside : List ℕ) → lead r (first_of b) ≡ false → HasNoFront (HasForm r) (opening b ++ inside)
unled-opening Comment r inside other = unled r 40 (42 ∷ inside) other
unled-opening String r inside other = unled r 34 inside other
unled-opening Cartouche r inside other = unled r 92 (60 ∷ 111 ∷ 112 ∷ 101 ∷ 110 ∷ 62 ∷ inside) other

-- no row before an opened bracket's own fits
pub before-bracket : (b : Bracket) (s inside : List ℕ) → s ≡ opening b ++ inside → NoneBefore s (rank (Enclosed b))
before-bracket b s inside e = record { before = λ r low. ⊎_elim (λ other. subst (HasNoFront (HasForm r)) (sym e) (unled-opening b r inside other)) (λ (own : Enclosed b ≡ r). absurd (omega (arith, ap rank own))) (other-led b r (omega (arith, bracket-low b))) } where
  bracket-low : (b : Bracket) → rank (Enclosed b) < 4
  bracket-low Comment = omega arith
  bracket-low String = omega arith
  bracket-low Cartouche = omega arith

-- no row before Error fits where the bracket isn't closed
pub before-error : (b : Bracket) (s inside : List ℕ) → s ≡ opening b ++ inside → HasNoFront (IsEnclosed b) s → NoneBefore s 4
before-error b s inside e none = record { before = λ r low. ⊎_elim (λ other. subst (HasNoFront (HasForm r)) (sym e) (unled-opening b r inside other)) (λ (own : Enclosed b ≡ r). subst (λ q. HasNoFront (HasForm q) s) own none) (other-led b r low) }
