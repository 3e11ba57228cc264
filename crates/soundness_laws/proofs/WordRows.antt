-- The first row of a text that begins with an identifier.
use Rattle.std.proofs.Common.{◌≡◌, ℕ, suc, ◌+◌, ◌<◌, ◌≤◌, true, List, [], ◌∷◌, ◌++◌, length, get_or, sym, refl, ap, ◌∙◌, subst, ⊎_elim, arith, length-append, get_or-take}
use Rattle.std.specs.List.{prefix_len}
use Rattle.std.proofs.lemmas.Bool.{both_ways, eqb-false, cases_lt, cond-true, cond-false}
use Rattle.std.proofs.lemmas.List.{get_or_at, get_or_append_left}
use Rattle.text_words.specs.Identifier.{is_identifier_part, IsIdentifier}
use Rattle.text_words.specs.Longest.{IsLongest, HasNoFront}
use Rattle.text_words.proofs.KnownIdentifiers.{identifier-parts, letter-at}
use Rattle.outer_syntax.proofs.KnownSplits.{front-part}
use Rattle.outer_syntax.specs.Forms.{dotted, IsLongIdent}
use Rattle.outer_syntax.specs.Rows.{HasForm, rank, IsFirstRow}
use Rattle.outer_syntax.specs.declared.bracket.Bracket.TheVariants.{Comment, String, Cartouche}
use Rattle.outer_syntax.specs.declared.row.Row.{Row}
use Rattle.outer_syntax.specs.declared.row.Row.TheVariants.{Space, Enclosed, Error, Symbol, LongIdent, Word, Sym}
use Rattle.outer_syntax.proofs.KnownLeads.{unled, letter-unled}
use Rattle.soundness_laws.specs.Lexemes.{EndsWord}

-- the run of identifier parts ends with the identifier
run_ends : (s : List ℕ) → EndsWord s → prefix_len is_identifier_part s ≡ 0
run_ends [] ends = refl
run_ends (c ∷ s) ends = cond-false (is_identifier_part c) (1 + prefix_len is_identifier_part s) 0 ends.0

run_over : (x s : List ℕ) → ((k : ℕ) → k < length x → is_identifier_part (get_or x k 0) ≡ true) → EndsWord s → prefix_len is_identifier_part (x ++ s) ≡ length x
run_over [] s parts ends = run_ends s ends
run_over (c ∷ x) s parts ends =
    let more : prefix_len is_identifier_part (x ++ s) ≡ length x = run_over x s (λ k low. parts (suc k) (omega (arith, low))) ends in
    cond-true (is_identifier_part c) (1 + prefix_len is_identifier_part (x ++ s)) 0 (parts 0 (omega arith)) ∙ omega (arith, more)

module _ (x s : List ℕ) (id : IsIdentifier x) (ends : EndsWord s) where
  longest : IsLongest IsIdentifier (x ++ s) (length x)
  longest = go x id
    where
      go : (x : List ℕ) → IsIdentifier x → IsLongest IsIdentifier (x ++ s) (length x)
      go [] id = absurd id
      go (c ∷ x) id =
          let size : prefix_len is_identifier_part (c ∷ x ++ s) ≡ length (c ∷ x) = run_over (c ∷ x) s (λ k low. identifier-parts (c ∷ x) id k 0 low) ends in
          subst (IsLongest IsIdentifier (c ∷ x ++ s)) size (letter-at (c ∷ x ++ s) c (omega arith) refl id.0)

  -- no dot stands behind it
  no_dot : (m : ℕ) → length x < m → m ≤ length (x ++ s) → get_or (x ++ s) (length x) 0 ≡ 46 → ⊥
  no_dot m low within dot = go s ends (omega (arith, low, within, length-append x s)) dot
    where
      go : (s : List ℕ) → EndsWord s → 0 < length s → get_or (x ++ s) (length x) 0 ≡ 46 → ⊥
      go [] ends some dot = omega (arith, some)
      go (d ∷ s) ends some dot =
          let same : d ≡ 46 = sym (get_or_at x d s 0 (length x) refl) ∙ dot in
          eqb-false d 46 ends.1 same

  -- so no longer name stands there
  no_long : HasNoFront IsLongIdent (x ++ s)
  no_long m within (name, [], name_is, some, each, e) = omega (arith, some)
  no_long m within (name, next ∷ names, name_is, some, each, e) =
      let k : ℕ = length name in
      let part = front-part (x ++ s) m name (dotted (next ∷ names)) within e in
      let below : k < m = omega (arith, part.1) in
      let dot : get_or (x ++ s) k 0 ≡ 46 = sym (get_or-take m (x ++ s) k 0 below) ∙ ap (λ r. get_or r k 0) e ∙ get_or_at name 46 (next ++ dotted names) 0 k refl in
      let low : k ≤ length x = longest.longest k (omega (arith, below, within)) (subst IsIdentifier (sym part.0) name_is) in
      ⊎_elim
      (λ (before : k < length x).
      both_ways (is_identifier_part 46) refl (ap is_identifier_part (sym dot ∙ get_or_append_left x s 0 k before) ∙ identifier-parts x id k 0 before))
      (λ (after : length x ≤ k).
      let same : k ≡ length x = omega (arith, low, after) in
      no_dot m (omega (arith, same, below)) within (ap (λ n. get_or (x ++ s) n 0) (sym same) ∙ dot))
      (cases_lt k (length x))

  lettered : (r : Row) → rank r < 6 → HasNoFront (HasForm r) (x ++ s)
  lettered r low = go x id
    where
      go : (x : List ℕ) → IsIdentifier x → HasNoFront (HasForm r) (x ++ s)
      go [] id = absurd id
      go (c ∷ x) id = unled r c (x ++ s) (letter-unled r c id.0 low)

  before : (r : Row) → rank r < 7 → HasNoFront (HasForm r) (x ++ s)
  before Space low = lettered Space (omega arith)
  before (Enclosed Comment) low = lettered (Enclosed Comment) (omega arith)
  before (Enclosed String) low = lettered (Enclosed String) (omega arith)
  before (Enclosed Cartouche) low = lettered (Enclosed Cartouche) (omega arith)
  before Error low = lettered Error (omega arith)
  before Symbol low = lettered Symbol (omega arith)
  before LongIdent low = no_long
  before Word low = absurd (omega (arith, low))
  before Sym low = absurd (omega (arith, low))

  pub word_row : IsFirstRow (x ++ s) Word (length x)
  word_row = record { longest = longest; first = before }
