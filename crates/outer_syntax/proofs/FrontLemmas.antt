-- What a text begins with is read alike whatever follows the blank that ends it.
use Rattle.std.proofs.Common.{◌≡◌, ℕ, suc, ◌<◌, ◌≤◌, true, List, [], ◌++◌, length, get_or, take, drop, sym, refl, ap, ◌∙◌, subst, ⊎_elim, arith, length-take-le, length-append, get_or-take}
use Rattle.std.specs.Prelude.{All}
use Rattle.std.specs.List.{AllPass}
use Rattle.std.proofs.lemmas.Bool.{cases_lt}
use Rattle.std.proofs.lemmas.List.{append-nil, get_or_append_left, take-append-le, take-append-drop, take-take, take_all}
use Rattle.std.proofs.lemmas.List.Elements.{All-append}
use Rattle.std.proofs.Math.Seq.{take-append_seam}
use Rattle.text_words.specs.Blanks.{is_blank}
use Rattle.text_words.specs.Longest.{IsLongest}
use Rattle.outer_syntax.specs.Names.{IsNamedSymbol}
use Rattle.outer_syntax.specs.Brackets.{opening, IsEnclosed}
use Rattle.outer_syntax.specs.Forms.{dotted, IsSpace, IsLongIdent, IsOpened}
use Rattle.outer_syntax.specs.Rows.{HasForm, rank, IsFirstRow}
use Rattle.outer_syntax.specs.declared.bracket.Bracket.{Bracket}
use Rattle.outer_syntax.specs.declared.row.Row.{Row}
use Rattle.outer_syntax.specs.declared.row.Row.TheVariants.{Space, Enclosed, Error, Symbol, LongIdent, Word, Sym}
use Rattle.outer_syntax.proofs.EnclosedLemmas.{opens-whole}
use Rattle.outer_syntax.proofs.CrossLemmas.{named-inner, blank-outer}
use Rattle.outer_syntax.proofs.KnownWords.{is_word, identifier-word, dotted-word}
use Rattle.outer_syntax.proofs.OpeningLemmas.{one-enclosed, blank-word, opening-solid, blank-solid, one-opening}
use Rattle.outer_syntax.proofs.RowLemmas.{rank-top}

-- two texts that begin alike, up to a blank
module _ (front u v : List ℕ) (k : ℕ) (size : length front ≡ suc k) (blank : is_blank (get_or front k 0) ≡ true) where
  -- their fronts that end with or before the blank are the same
  pub alike : (m : ℕ) → m ≤ suc k → take m (front ++ u) ≡ take m (front ++ v)
  alike m within = take-append-le m front u (omega arith) ∙ sym (take-append-le m front v (omega arith))

  whole-within : (w : List ℕ) (m : ℕ) → m ≤ suc k → m ≤ length (front ++ w)
  whole-within w m within = omega (arith, length-append front w)

  -- a longer front has the blank, and not as its last scalar
  has-blank : (m : ℕ) → suc k < m → is_blank (get_or (take m (front ++ v)) k 0) ≡ true
  has-blank m longer =
      ap is_blank (get_or-take m (front ++ v) k 0 (omega arith) ∙ get_or_append_left front v 0 k (omega arith)) ∙ blank

  no-words : (m : ℕ) → suc k < m → m ≤ length (front ++ v) → All (λ c. is_word c ≡ true) (take m (front ++ v)) → ⊥
  no-words m longer within each =
      blank-word (get_or (take m (front ++ v)) k 0) (has-blank m longer) (each k 0 (omega (arith, length-take-le m (front ++ v) within)))

  no-symbol : (m : ℕ) → suc k < m → m ≤ length (front ++ v) → IsNamedSymbol (take m (front ++ v)) → ⊥
  no-symbol m longer within named =
      blank-outer (get_or (take m (front ++ v)) k 0) (has-blank m longer) (named-inner (take m (front ++ v)) named k (omega (arith, longer, length-take-le m (front ++ v) within)))

  no-long : (m : ℕ) → suc k < m → m ≤ length (front ++ v) → IsLongIdent (take m (front ++ v)) → ⊥
  no-long m longer within (name, names, id, some, each, e) =
      no-words m longer within (subst (All (λ c. is_word c ≡ true)) (sym e) (All-append (λ c. is_word c ≡ true) name (dotted names) (identifier-word name id) (dotted-word names each)))

  -- what opens in one opens in the other, before the blank
  opens-early : (b : Bracket) (m : ℕ) (inside : List ℕ) → take m (front ++ v) ≡ opening b ++ inside → (length (opening b) ≤ k) × (take (length (opening b)) (front ++ u) ≡ opening b)
  opens-early b m inside e =
      let a : ℕ = length (opening b) in
      let rest : List ℕ = inside ++ drop m (front ++ v) in
      let whole : front ++ v ≡ opening b ++ rest = opens-whole (opening b) (front ++ v) m inside e in
      let early : a ≤ k = ⊎_elim
      (λ (late : k < a). absurd (blank-solid (get_or (opening b) k 0)
      (ap is_blank (sym (get_or_append_left (opening b) rest 0 k late) ∙ ap (λ s. get_or s k 0) (sym whole) ∙ get_or_append_left front v 0 k (omega arith)) ∙ blank)
      (opening-solid b k 0 late)))
      (λ (early : a ≤ k). early)
      (cases_lt k a) in
      (early, alike a (omega arith) ∙ ap (take a) whole ∙ take-append_seam (opening b) rest)

  opens-too : (b : Bracket) (m : ℕ) (inside : List ℕ) → take m (front ++ v) ≡ opening b ++ inside → IsOpened (take (length (opening b)) (front ++ u))
  opens-too b m inside e = (b, [], (opens-early b m inside e).1 ∙ sym (append-nil (opening b)))

  all-blank : (m : ℕ) → suc k < m → m ≤ length (front ++ v) → IsSpace (take m (front ++ v)) → IsSpace (take (suc k) (front ++ u))
  all-blank m longer within space = (
    omega (arith, length-take-le (suc k) (front ++ u) (whole-within u (suc k) (omega arith))),
    subst (AllPass is_blank) (take-take (suc k) m (front ++ v) (omega arith) ∙ sym (alike (suc k) (omega arith)))
        (λ j d lt.
        let below : j < suc k = omega (arith, lt, length-take-le (suc k) (take m (front ++ v)) (omega (arith, length-take-le m (front ++ v) within))) in
        ap is_blank (get_or-take (suc k) (take m (front ++ v)) j d below) ∙ space.1 j d (omega (arith, below, length-take-le m (front ++ v) within))),
  )

  -- the first row of one text, which ends before the blank, against a longer front of the other
  module _ (row : Row) (n : ℕ) (before : n ≤ k) (first : IsFirstRow (front ++ u) row n) where
    not-error : row ≡ Error → ⊥
    not-error e =
        let opened = subst (λ r. IsLongest (HasForm r) (front ++ u) n) e first.longest in
        let form = opened.fits in
        let all : length (front ++ u) ≤ n = opened.longest (length (front ++ u)) (omega arith) (form.0, form.1 ++ drop n (front ++ u), take_all (length (front ++ u)) (front ++ u) (omega arith) ∙ opens-whole (opening form.0) (front ++ u) n form.1 form.2) in
        omega (arith, all, before, size, length-append front u)

    -- where the other opens, this one is an enclosed text of the bracket
    opened-row : (b : Bracket) (m : ℕ) (inside : List ℕ) → take m (front ++ v) ≡ opening b ++ inside → (rank row ≤ 4)
    opened-row b m inside e = ⊎_elim
        (λ (above : 4 < rank row). absurd (first.first Error above (length (opening b)) (whole-within u (length (opening b)) (omega (arith, (opens-early b m inside e).0))) (opens-too b m inside e)))
        (λ (low : rank row ≤ 4). low)
        (cases_lt 4 (rank row))

    enclosed-row : (b : Bracket) (m : ℕ) (inside : List ℕ) → take m (front ++ v) ≡ opening b ++ inside → rank (Enclosed b) < rank row → ⊥
    enclosed-row b m inside e above = go row refl above (opened-row b m inside e) where
      go : (r : Row) → row ≡ r → rank (Enclosed b) < rank r → rank r ≤ 4 → ⊥
      go Space is above low = omega arith
      go (Enclosed c) is above low =
          let form : IsEnclosed c (take n (front ++ u)) = subst (λ r. HasForm r (take n (front ++ u))) is first.longest.fits in
          let a : ℕ = length (opening b) in
          let mine : front ++ u ≡ opening b ++ drop a (front ++ u) = sym (take-append-drop a (front ++ u)) ∙ ap (λ s. s ++ drop a (front ++ u)) (opens-early b m inside e).1 in
          let its : front ++ u ≡ opening c ++ (form.0 ++ drop n (front ++ u)) = opens-whole (opening c) (front ++ u) n form.0 form.1 in
          omega (arith, above, ap (λ x. rank (Enclosed x)) (one-opening b c (front ++ u) _ _ mine its))
      go Error is above low = not-error is
      go Symbol is above low = omega arith
      go LongIdent is above low = omega arith
      go Word is above low = omega arith
      go Sym is above low = omega arith

    lower-none : (r : Row) → rank r < rank row → (m : ℕ) → suc k < m → m ≤ length (front ++ v) → HasForm r (take m (front ++ v)) → ⊥
    lower-none Space low m longer within form = first.first Space low (suc k) (whole-within u (suc k) (omega arith)) (all-blank m longer within form)
    lower-none (Enclosed b) low m longer within form = enclosed-row b m form.0 form.1 low
    lower-none Error low m longer within form = omega (arith, low, opened-row form.0 m form.1 form.2)
    lower-none Symbol low m longer within form = no-symbol m longer within form
    lower-none LongIdent low m longer within form = no-long m longer within form
    lower-none Word low m longer within form = no-words m longer within (identifier-word (take m (front ++ v)) form)
    lower-none Sym low m longer within form = omega (arith, low, rank-top row)

    no-longer : (r : Row) → row ≡ r → (m : ℕ) → suc k < m → m ≤ length (front ++ v) → HasForm r (take m (front ++ v)) → ⊥
    no-longer Space is m longer within form =
        let blanks = subst (λ r. IsLongest (HasForm r) (front ++ u) n) is first.longest in
        omega (arith, before, blanks.longest (suc k) (whole-within u (suc k) (omega arith)) (all-blank m longer within form))
    no-longer (Enclosed b) is m longer within form =
        let mine : IsEnclosed b (take n (front ++ u)) = subst (λ r. HasForm r (take n (front ++ u))) is first.longest.fits in
        omega (arith, longer, before, one-enclosed b (front ++ v) n m (whole-within v n (omega arith)) within (subst (IsEnclosed b) (alike n (omega arith)) mine) form)
    no-longer Error is m longer within form = not-error is
    no-longer Symbol is m longer within form = no-symbol m longer within form
    no-longer LongIdent is m longer within form = no-long m longer within form
    no-longer Word is m longer within form = no-words m longer within (identifier-word (take m (front ++ v)) form)
    no-longer Sym is m longer within form = omega (arith, form, longer, length-take-le m (front ++ v) within)

    pub kept-row : IsFirstRow (front ++ v) row n
    kept-row = record {
      longest = record {
        within = whole-within v n (omega arith);
        fits = subst (HasForm row) (alike n (omega arith)) first.longest.fits;
        longest = λ m within form. ⊎_elim
            (λ (longer : suc k < m). absurd (no-longer row refl m longer within form))
            (λ (short : m ≤ suc k). first.longest.longest m (whole-within u m short) (subst (HasForm row) (sym (alike m short)) form))
            (cases_lt (suc k) m);
      };
      first = λ r low m within form. ⊎_elim
          (λ (longer : suc k < m). lower-none r low m longer within form)
          (λ (short : m ≤ suc k). first.first r low m (whole-within u m short) (subst (HasForm r) (sym (alike m short)) form))
          (cases_lt (suc k) m);
    }
