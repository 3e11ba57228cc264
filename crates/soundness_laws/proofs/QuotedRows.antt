-- The first row of a text that begins with a string in which no `"` and no `\` stands.
use Rattle.std.proofs.Common.{◌≡◌, ℕ, zero, suc, ◌+◌, ◌<◌, ◌≤◌, ◌==◌, ◌&&◌, cond, true, false, List, [], ◌∷◌, ◌++◌, length, take, drop, sym, refl, ap, ◌∙◌, subst, arith, length-append, length-take-le, append_assoc, ne_eqb}
use Rattle.std.specs.List.{AllByRecursion}
use Rattle.std.proofs.lemmas.Bool.{eqb-false, cond-false}
use Rattle.std.proofs.lemmas.List.{take_at}
use Rattle.outer_syntax.specs.Brackets.{begins, piece, Reads, opened, closed, Closes, IsEnclosed}
use Rattle.outer_syntax.specs.Rows.{rank, IsFirstRow}
use Rattle.outer_syntax.specs.declared.bracket.Bracket.TheVariants.{Comment, String, Cartouche}
use Rattle.outer_syntax.specs.declared.bracket.Mark.{Mark}
use Rattle.outer_syntax.specs.declared.bracket.Mark.TheVariants.{Close, Other}
use Rattle.outer_syntax.specs.declared.row.Row.{Row}
use Rattle.outer_syntax.specs.declared.row.Row.TheVariants.{Space, Enclosed, Error, Symbol, LongIdent, Word, Sym}
use Rattle.outer_syntax.proofs.KnownLeads.{lead, unled}
use Rattle.soundness_laws.specs.Lexemes.{IsPlain}

-- the text begins with no scalar that fails to be the one
unbegun : (d c : ℕ) (s : List ℕ) → (c == d) ≡ false → begins (d ∷ []) (c ∷ s) ≡ false
unbegun d c s other = ap (λ b. b && true) (ne_eqb d c (λ same. eqb-false c d other (sym same)))

-- a plain scalar is a piece that neither opens nor closes
plain_piece : (c : ℕ) (s : List ℕ) → IsPlain c → piece String (c ∷ s) ≡ (Other, 1)
plain_piece c s plain =
    cond-false (begins (92 ∷ []) (c ∷ s)) (Other, 2) (cond (begins (34 ∷ []) (c ∷ s)) (Close, 1) (Other, 1)) (unbegun 92 c s plain.1)
    ∙ cond-false (begins (34 ∷ []) (c ∷ s)) (Close, 1) (Other, 1) (unbegun 34 c s plain.0)

-- the pieces up to the closing
pieces : List ℕ → List Mark
pieces [] = Close ∷ []
pieces (c ∷ u) = Other ∷ pieces u

module _ (c : ℕ) (s : List ℕ) (ms : List Mark) (plain : IsPlain c) where
  more_read : Reads String s ms → Reads String (c ∷ s) (Other ∷ ms)
  more_read reads = (
    omega arith,
    ap (λ p. p.0) (plain_piece c s plain),
    subst (λ p. Reads String (drop p.1 (c ∷ s)) ms) (sym (plain_piece c s plain)) reads,
  )

  rest_read : (m : Mark) → Reads String (c ∷ s) (m ∷ ms) → (m ≡ Other) × Reads String s ms
  rest_read m (some, first, reads) = (
    sym first ∙ ap (λ p. p.0) (plain_piece c s plain),
    subst (λ p. Reads String (drop p.1 (c ∷ s)) ms) (plain_piece c s plain) reads,
  )

read_all : (u : List ℕ) → AllByRecursion IsPlain u → Reads String (u ++ 34 ∷ []) (pieces u)
unfolding pieces
read_all [] plain = (omega arith, refl, refl)
read_all (c ∷ u) plain = more_read c (u ++ 34 ∷ []) (pieces u) plain.0 (read_all u plain.1)

close_none : (k : ℕ) → k < 1 → closed (take k (Close ∷ [])) < 1 + opened (take k (Close ∷ []))
close_none zero low = omega arith
close_none (suc k) low = absurd (omega (arith, low))

close_later : (ms : List Mark) → Closes 1 ms → (k : ℕ) → k < suc (length ms) → closed (take k (Other ∷ ms)) < 1 + opened (take k (Other ∷ ms))
close_later ms closes zero low = omega arith
close_later ms closes (suc k) low = omega (arith, closes.last k (omega (arith, low)))

close_all : (u : List ℕ) → Closes 1 (pieces u)
unfolding pieces
close_all [] = record { all = omega arith; last = close_none }
close_all (c ∷ u) = let more = close_all u in record { all = omega (arith, more.all); last = close_later (pieces u) more }

-- what closes the string is no longer than that
module _ (rest : List ℕ) where
  shut : (m : ℕ) → m ≤ length rest → (ms : List Mark) → Reads String (34 ∷ take m rest) ms → Closes 1 ms → m ≡ 0
  shut m within [] reads closes = absurd (omega (arith, closes.all))
  shut m within (q ∷ []) (some, first, reads) closes =
      let none : take m rest ≡ [] = reads in
      omega (arith, ap length none, length-take-le m rest within)
  shut m within (q ∷ r ∷ ms) (some, first, reads) closes =
      let early = subst (λ x. closed (x ∷ []) < 1 + opened (x ∷ [])) (sym first) (closes.last 1 (omega arith)) in
      absurd (omega (arith, early))

  bound : (u : List ℕ) → AllByRecursion IsPlain u → (m : ℕ) → m ≤ length (u ++ 34 ∷ rest) → (ms : List Mark)
      → Reads String (take m (u ++ 34 ∷ rest)) ms → Closes 1 ms → m ≤ length u + 1
  bound u plain zero within ms reads closes = omega arith
  bound [] plain (suc m) within ms reads closes = omega (arith, shut m (omega (arith, within)) ms reads closes)
  bound (c ∷ u) plain (suc m) within [] reads closes = absurd (omega (arith, closes.all))
  bound (c ∷ u) plain (suc m) within (q ∷ ms) reads closes =
      let parts = rest_read c (take m (u ++ 34 ∷ rest)) ms plain.0 q reads in
      let further = subst (λ x. Closes 1 (x ∷ ms)) parts.0 closes in
      let later : Closes 1 ms = record { all = omega (arith, further.all); last = λ k low. omega (arith, further.last (suc k) (omega (arith, low))) } in
      omega (arith, bound u plain.1 m (omega (arith, within)) ms parts.1 later)

quote_led : (r : Row) → rank r < 2 → lead r 34 ≡ false
quote_led Space low = refl
quote_led (Enclosed Comment) low = refl
quote_led (Enclosed String) low = absurd (omega (arith, low))
quote_led (Enclosed Cartouche) low = absurd (omega (arith, low))
quote_led Error low = absurd (omega (arith, low))
quote_led Symbol low = absurd (omega (arith, low))
quote_led LongIdent low = absurd (omega (arith, low))
quote_led Word low = absurd (omega (arith, low))
quote_led Sym low = absurd (omega (arith, low))

module _ (u rest : List ℕ) (plain : AllByRecursion IsPlain u) where
  n : ℕ
  n = length (u ++ 34 ∷ [])

  upto : (m : ℕ) → m ≤ length (34 ∷ (u ++ 34 ∷ rest)) → IsEnclosed String (take m (34 ∷ (u ++ 34 ∷ rest))) → m ≤ suc n
  unfolding n
  upto zero within form = omega arith
  upto (suc m) within (inside, e, (ms, reads, closes)) =
      let same : inside ≡ take m (u ++ 34 ∷ rest) = cc (e) in
      omega (arith, length-append u (34 ∷ []), bound rest u plain m (omega (arith, within)) ms (subst (λ s. Reads String s ms) same reads) closes)

  joined : IsFirstRow (34 ∷ (u ++ 34 ∷ rest)) (Enclosed String) (suc n)
  unfolding n
  joined = record {
    longest = record {
      within = omega (arith, length-append u (34 ∷ []), length-append u (34 ∷ rest));
      fits = (
        u ++ 34 ∷ [],
        ap (λ s. 34 ∷ s) (ap (take n) (sym (append_assoc u (34 ∷ []) rest)) ∙ take_at (u ++ 34 ∷ []) rest n refl),
        (pieces u, read_all u plain, close_all u),
      );
      longest = upto;
    };
    first = λ r low. unled r 34 (u ++ 34 ∷ rest) (quote_led r low);
  }

  pub quoted_row : IsFirstRow ((34 ∷ (u ++ 34 ∷ [])) ++ rest) (Enclosed String) (length (34 ∷ (u ++ 34 ∷ [])))
  unfolding n
  quoted_row = subst (λ s. IsFirstRow (34 ∷ s) (Enclosed String) (suc n)) (sym (append_assoc u (34 ∷ []) rest)) joined
