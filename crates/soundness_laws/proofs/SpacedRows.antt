-- The first row of a text is that of its front with a space behind it, where it takes no more.
use Rattle.std.proofs.Common.{◌≡◌, ℕ, ◌<◌, ◌≤◌, List, [], ◌∷◌, ◌++◌, length, take, sym, refl, ap, ◌∙◌, subst, ⊎_elim, arith, length-append, length-take-le}
use Rattle.std.specs.List.{AllPass}
use Rattle.std.proofs.lemmas.Bool.{cases_lt}
use Rattle.std.proofs.lemmas.List.{take_all, take-append-le, get_or_append_left, append-nil}
use Rattle.std.proofs.Math.Seq.{take-append_seam}
use Rattle.text_words.specs.Blanks.{is_blank}
use Rattle.text_words.specs.Longest.{IsLongest}
use Rattle.outer_syntax.specs.Brackets.{opening}
use Rattle.outer_syntax.specs.Forms.{IsSpace, IsOpened}
use Rattle.outer_syntax.specs.Rows.{HasForm, rank, IsFirstRow}
use Rattle.outer_syntax.specs.declared.bracket.Bracket.TheVariants.{Comment, String, Cartouche}
use Rattle.outer_syntax.specs.declared.row.Row.{Row}
use Rattle.outer_syntax.specs.declared.row.Row.TheVariants.{Space, Enclosed, Error, Symbol, LongIdent, Word, Sym}
use Rattle.soundness_laws.proofs.SpacedLemmas.{unenclosed, opened_before, unnamed, unnamed_word, unlong}

top : (r : Row) → rank r ≤ 8
top Space = omega arith
top (Enclosed Comment) = omega arith
top (Enclosed String) = omega arith
top (Enclosed Cartouche) = omega arith
top Error = omega arith
top Symbol = omega arith
top LongIdent = omega arith
top Word = omega arith
top Sym = omega arith

-- a text with a front, of which a row takes no more
module _ (cut x : List ℕ) (row : Row) (n : ℕ) (within : n ≤ length cut) (some : 0 < n) (first : IsFirstRow (cut ++ x) row n)
    (sound : row ≡ Error → ⊥) (space : row ≡ Space → n < length cut) where
  alike : (m : ℕ) → m ≤ length cut → take m (cut ++ x) ≡ take m (cut ++ 32 ∷ [])
  alike m low = take-append-le m cut x low ∙ sym (take-append-le m cut (32 ∷ []) low)

  inside : (w : List ℕ) (m : ℕ) → m ≤ length cut → m ≤ length (cut ++ w)
  inside w m low = omega (arith, low, length-append cut w)

  blanks : IsSpace (cut ++ 32 ∷ []) → IsSpace (take (length cut) (cut ++ x))
  blanks all = (
    omega (arith, within, some, length-take-le (length cut) (cut ++ x) (inside x (length cut) (omega arith))),
    subst (AllPass is_blank) (sym (take-append_seam cut x))
        (λ j d below. ap is_blank (sym (get_or_append_left cut (32 ∷ []) d j below)) ∙ all.1 j d (omega (arith, below, length-append cut (32 ∷ [])))),
  )

  opens : IsOpened (cut ++ 32 ∷ []) → rank row ≤ 4
  opens (b, rest, e) =
      let before = opened_before b cut rest e in
      let size : ℕ = length (opening b) in
      let too : IsOpened (take size (cut ++ x)) = (b, [], take-append-le size cut x before.0 ∙ before.1 ∙ sym (append-nil (opening b))) in
      ⊎_elim (λ (above : 4 < rank row). absurd (first.first Error above size (inside x size before.0) too)) (λ (low : rank row ≤ 4). low) (cases_lt 4 (rank row))

  -- no row above it fits the whole of the front and the space
  lower : (r : Row) → rank r < rank row → HasForm r (cut ++ 32 ∷ []) → ⊥
  lower Space low form = first.first Space low (length cut) (inside x (length cut) (omega arith)) (blanks form)
  lower (Enclosed b) low form = unenclosed b cut form
  lower Error low form = omega (arith, low, opens form)
  lower Symbol low form = unnamed cut form
  lower LongIdent low form = unlong cut form
  lower Word low form = unnamed_word cut form
  lower Sym low form = omega (arith, low, top row)

  -- nor does the row itself
  itself : (r : Row) → row ≡ r → HasForm r (cut ++ 32 ∷ []) → ⊥
  itself Space is form =
      let longest = subst (λ r. IsLongest (HasForm r) (cut ++ x) n) is first.longest in
      omega (arith, space is, longest.longest (length cut) (inside x (length cut) (omega arith)) (blanks form))
  itself (Enclosed b) is form = unenclosed b cut form
  itself Error is form = sound is
  itself Symbol is form = unnamed cut form
  itself LongIdent is form = unlong cut form
  itself Word is form = unnamed_word cut form
  itself Sym is form = omega (arith, within, some, form, length-append cut (32 ∷ []))

  whole : (m : ℕ) → m ≤ length (cut ++ 32 ∷ []) → length cut < m → take m (cut ++ 32 ∷ []) ≡ cut ++ 32 ∷ []
  whole m upto longer = take_all m (cut ++ 32 ∷ []) (omega (arith, longer, length-append cut (32 ∷ [])))

  pub spaced_row : IsFirstRow (cut ++ 32 ∷ []) row n
  spaced_row = record {
    longest = record {
      within = inside (32 ∷ []) n within;
      fits = subst (HasForm row) (alike n within) first.longest.fits;
      longest = λ m upto form. ⊎_elim
          (λ (longer : length cut < m). absurd (itself row refl (subst (HasForm row) (whole m upto longer) form)))
          (λ (low : m ≤ length cut). first.longest.longest m (inside x m low) (subst (HasForm row) (sym (alike m low)) form))
          (cases_lt (length cut) m);
    };
    first = λ r below m upto form. ⊎_elim
        (λ (longer : length cut < m). lower r below (subst (HasForm r) (whole m upto longer) form))
        (λ (low : m ≤ length cut). first.first r below m (inside x m low) (subst (HasForm r) (sym (alike m low)) form))
        (cases_lt (length cut) m);
  }
