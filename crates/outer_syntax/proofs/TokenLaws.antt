-- There is one list of tokens between two places, and it joins to the text between them.
use Rattle.std.proofs.Common.{◌≡◌, ℕ, ◌-◌, ◌<◌, ◌≤◌, Bool, None, List, [], ◌∷◌, ◌++◌, length, drop, map, sym, refl, ap, ◌∙◌, subst, ⊎_elim, arith}
use Rattle.std.specs.List.{flat_map}
use Rattle.std.proofs.lemmas.Bool.{cases_lt}
use Rattle.text_words.specs.Longest.{IsLongest}
use Rattle.text_words.specs.Pieces.{text_between, joined, Tiles}
use Rattle.text_words.proofs.KnownPieces.{tiles-whole}
use Rattle.std.proofs.lemmas.List.Concat.{flat_map-cons}
use Rattle.outer_syntax.specs.Rows.{rank, HasForm, IsFirstRow}
use Rattle.outer_syntax.specs.Words.{kind_of}
use Rattle.outer_syntax.specs.Tokens.{text_of, IsToken, AreTokensBetween, AreTokensUnder}
use Rattle.outer_syntax.specs.Headings.{names_at, IsHeadingEnd, AreTokens, proper}
use Rattle.outer_syntax.specs.declared.row.Row.{Row}
use Rattle.outer_syntax.specs.declared.token.Token.{Token}
use Rattle.outer_syntax.proofs.RowLemmas.{same-row}
use Rattle.outer_syntax.proofs.KnownHeadings.{one-end}

-- a text has one first row
row-of : (s : List ℕ) (r q : Row) (m n : ℕ) → IsFirstRow s r m → IsFirstRow s q n → r ≡ q
row-of s r q m n one other =
    ⊎_elim
    (λ (less : rank r < rank q). absurd (other.first r less m one.longest.within one.longest.fits))
    (λ (above : rank q ≤ rank r). ⊎_elim (λ (less : rank q < rank r). absurd (one.first q less n other.longest.within other.longest.fits)) (λ (below : rank r ≤ rank q). same-row r q (omega arith)) (cases_lt (rank q) (rank r)))
    (cases_lt (rank r) (rank q))

pub one-token : (is_command : List ℕ → Bool) (text : List ℕ) (t u : Token) → t.range.start ≡ u.range.start → IsToken is_command text t → IsToken is_command text u → t ≡ u
one-token is_command text t u starts (row, some, first, kind) (row', some', first', kind') =
    let other : IsFirstRow (drop t.range.start text) row' (u.range.stop - u.range.start) = subst (λ p. IsFirstRow (drop p text) row' (u.range.stop - u.range.start)) (sym starts) first' in
    let rows : row ≡ row' = row-of (drop t.range.start text) row row' _ _ first other in
    let longest = subst (λ r. IsLongest (HasForm r) (drop t.range.start text) (u.range.stop - u.range.start)) (sym rows) other.longest in
    let below : t.range.stop - t.range.start ≤ u.range.stop - u.range.start = longest.longest _ first.longest.within first.longest.fits in
    let above : u.range.stop - u.range.start ≤ t.range.stop - t.range.start = first.longest.longest _ longest.within longest.fits in
    let stops : t.range.stop ≡ u.range.stop = omega (arith, starts, some, some') in
    let kinds : t.kind ≡ u.kind = kind ∙ (λ i. kind_of is_command (rows i) (text_between text (starts i) (stops i))) ∙ sym kind' in
    λ i. record { kind = kinds i; range = record { start = starts i; stop = stops i } }

-- where a token begins and where it ends
abbrev place_of : Token → ℕ × ℕ
place_of t = (t.range.start, t.range.stop)

pub rises : (names : ℕ → List ℕ → Bool) (text : List ℕ) (from to : ℕ) (ts : List Token) → AreTokensBetween names text from to ts → from ≤ to
rises names text from to [] same = omega arith
rises names text from to (t ∷ ts) (starts, token, rest) = omega (arith, starts, token.1, rises names text t.range.stop to ts rest)

pub one-between : (names : ℕ → List ℕ → Bool) (text : List ℕ) (from to : ℕ) (a b : List Token) → AreTokensBetween names text from to a → AreTokensBetween names text from to b → a ≡ b
one-between names text from to [] [] one other = refl
one-between names text from to [] (u ∷ us) one (starts, token, rest) = absurd (omega (arith, one, starts, token.1, rises names text u.range.stop to us rest))
one-between names text from to (t ∷ ts) [] (starts, token, rest) other = absurd (omega (arith, other, starts, token.1, rises names text t.range.stop to ts rest))
one-between names text from to (t ∷ ts) (u ∷ us) (starts, token, rest) (starts', token', rest') =
    let heads : t ≡ u = one-token (names from) text t u (starts ∙ sym starts') token token' in
    let tails : ts ≡ us = one-between names text t.range.stop to ts us rest (subst (λ (x : Token). AreTokensBetween names text x.range.stop to us) (sym heads) rest') in
    λ i. heads i ∷ tails i

pub one-tokens : (text : List ℕ) (aliases : List (List ℕ)) (a b : List Token) → AreTokens text aliases a → AreTokens text aliases b → a ≡ b
one-tokens text aliases a b (base, end, under, ends, tokens) (base', end', under', ends', tokens') =
    let bases : base ≡ base' = one-between (names_at None []) text 0 (length text) base base' under under' in
    let same : end ≡ end' = one-end text (proper base) end end' ends (subst (λ x. IsHeadingEnd text (proper x) end') (sym bases) ends') in
    one-between (names_at end aliases) text 0 (length text) a b tokens (subst (λ e. AreTokensUnder (names_at e aliases) text b) (sym same) tokens')

-- tokens tile what lies between two places
tiles : (names : ℕ → List ℕ → Bool) (text : List ℕ) (from to : ℕ) (ts : List Token) → AreTokensBetween names text from to ts → Tiles from to (map place_of ts)
tiles names text from to [] same = same
tiles names text from to (t ∷ ts) (starts, token, more) = (starts, token.1, tiles names text t.range.stop to ts more)

joins-as : (text : List ℕ) (ts : List Token) → flat_map (text_of text) ts ≡ joined text (map place_of ts)
joins-as text [] = refl
joins-as text (t ∷ ts) = flat_map-cons (text_of text) t ts ∙ ap (λ r. text_of text t ++ r) (joins-as text ts) ∙ sym (flat_map-cons (λ (p : ℕ × ℕ). text_between text p.0 p.1) (place_of t) (map place_of ts))

pub joined-all : (text : List ℕ) (aliases : List (List ℕ)) (ts : List Token) → AreTokens text aliases ts → flat_map (text_of text) ts ≡ text
joined-all text aliases ts (base, end, under, ends, tokens) = joins-as text ts ∙ tiles-whole text (map place_of ts) (tiles (names_at end aliases) text 0 (length text) ts tokens)
