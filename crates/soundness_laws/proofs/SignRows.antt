-- The first row of a text that begins with a parenthesis or with one space.
use Rattle.std.proofs.Common.{◌≡◌, ℕ, zero, suc, ◌+◌, ◌<◌, ◌≤◌, false, List, [], ◌∷◌, ◌++◌, length, take, refl, ap, subst, arith, length-take-le}
use Rattle.std.specs.List.{prefix_len}
use Rattle.std.proofs.lemmas.Bool.{eqb-false, cond-false}
use Rattle.text_words.specs.Blanks.{is_blank}
use Rattle.text_words.specs.Longest.{IsLongest, HasNoFront}
use Rattle.outer_syntax.specs.Forms.{IsSpace}
use Rattle.outer_syntax.specs.Rows.{HasForm, rank, IsFirstRow}
use Rattle.outer_syntax.specs.Brackets as brackets
use Rattle.outer_syntax.specs.declared.bracket.Bracket.{Bracket}
use Rattle.outer_syntax.specs.declared.bracket.Bracket.TheVariants.{Comment, String, Cartouche}
use Rattle.outer_syntax.specs.declared.row.Row.{Row}
use Rattle.outer_syntax.specs.declared.row.Row.TheVariants.{Space, Enclosed, Error, Symbol, LongIdent, Word, Sym}
use Rattle.outer_syntax.proofs.KnownBlanks.{space-some}
use Rattle.outer_syntax.proofs.KnownLeads.{lead, unled}
use Rattle.soundness_laws.specs.Lexemes.{EndsSpace, EndsSign}

-- one scalar
single : (c : ℕ) (s : List ℕ) → IsLongest (λ t. length t ≡ 1) (c ∷ s) 1
single c s = record {
  within = omega arith;
  fits = refl;
  longest = λ m within fits. omega (arith, fits, length-take-le m (c ∷ s) within);
}

closing_led : (r : Row) → rank r < 8 → lead r 41 ≡ false
closing_led Space low = refl
closing_led (Enclosed Comment) low = refl
closing_led (Enclosed String) low = refl
closing_led (Enclosed Cartouche) low = refl
closing_led Error low = refl
closing_led Symbol low = refl
closing_led LongIdent low = refl
closing_led Word low = refl
closing_led Sym low = absurd (omega (arith, low))

pub closing_row : (s : List ℕ) → IsFirstRow (41 ∷ s) Sym 1
closing_row s = record { longest = single 41 s; first = λ r low. unled r 41 s (closing_led r low) }

-- `(` before another scalar than `*` opens no comment
no_comment : (s : List ℕ) → EndsSign s → (m : ℕ) → m ≤ length (40 ∷ s) → (inside : List ℕ) → take m (40 ∷ s) ≡ 40 ∷ 42 ∷ inside → ⊥
no_comment s ends zero within inside e = cc (e)
no_comment s ends (suc zero) within inside e = cc (e)
no_comment [] ends (suc (suc m)) within inside e = omega (arith, within)
no_comment (c ∷ s) ends (suc (suc m)) within inside e = let same : c ≡ 42 = cc (e) in eqb-false c 42 ends same

first_scalar : (m : ℕ) (s : List ℕ) (d : ℕ) (t : List ℕ) → take m (40 ∷ s) ≡ d ∷ t → d ≡ 40
first_scalar zero s d t e = cc (e)
first_scalar (suc m) s d t e = cc (e)

uncommented : (s : List ℕ) → EndsSign s → HasNoFront (HasForm (Enclosed Comment)) (40 ∷ s)
uncommented s ends m within form = no_comment s ends m within form.0 form.1

unopened : (s : List ℕ) → EndsSign s → HasNoFront (HasForm Error) (40 ∷ s)
unopened s ends m within (b, inside, e) = by_bracket b e
  where
    by_bracket : (b : Bracket) → take m (40 ∷ s) ≡ brackets.opening b ++ inside → ⊥
    by_bracket Comment e = no_comment s ends m within inside e
    by_bracket String e = omega (arith, first_scalar m s 34 inside e)
    by_bracket Cartouche e = omega (arith, first_scalar m s 92 _ e)

opening_first : (s : List ℕ) → EndsSign s → (r : Row) → rank r < 8 → HasNoFront (HasForm r) (40 ∷ s)
opening_first s ends Space low = unled Space 40 s refl
opening_first s ends (Enclosed Comment) low = uncommented s ends
opening_first s ends (Enclosed String) low = unled (Enclosed String) 40 s refl
opening_first s ends (Enclosed Cartouche) low = unled (Enclosed Cartouche) 40 s refl
opening_first s ends Error low = unopened s ends
opening_first s ends Symbol low = unled Symbol 40 s refl
opening_first s ends LongIdent low = unled LongIdent 40 s refl
opening_first s ends Word low = unled Word 40 s refl
opening_first s ends Sym low = absurd (omega (arith, low))

pub opening_row : (s : List ℕ) → EndsSign s → IsFirstRow (40 ∷ s) Sym 1
opening_row s ends = record { longest = single 40 s; first = opening_first s ends }

-- one space is all the blanks there
no_blank : (s : List ℕ) → EndsSpace s → 1 + prefix_len is_blank s ≡ 1
no_blank [] ends = refl
no_blank (c ∷ s) ends = ap (λ n. 1 + n) (cond-false (is_blank c) (1 + prefix_len is_blank s) 0 ends)

pub space_row : (s : List ℕ) → EndsSpace s → IsFirstRow (32 ∷ s) Space 1
space_row s ends = record {
  longest = subst (IsLongest IsSpace (32 ∷ s)) (no_blank s ends) (space-some (32 ∷ s) (omega arith));
  first = λ r low m within form. omega (arith, low);
}
