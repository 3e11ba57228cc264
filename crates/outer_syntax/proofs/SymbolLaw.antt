-- No token ends within a symbol: by its row, its last scalar or its first symbol tells.
use Rattle.std.proofs.Common.{◌≡◌, ℕ, ◌+◌, ◌-◌, ◌<◌, ◌≤◌, Bool, true, false, List, [], ◌∷◌, ◌++◌, length, get_or, take, drop, sym, refl, ap, ◌∙◌, subst, ⊎_elim, arith, length-take-le, length-drop, length-append, get_or-take, get_or-drop, append_assoc}
use Rattle.std.specs.Prelude.{All}
use Rattle.std.proofs.lemmas.Bool.{both_ways, cases_lt}
use Rattle.std.proofs.lemmas.List.{get_or_at, take_all}
use Rattle.std.proofs.lemmas.List.Elements.{All-nil, All-cons, All-append}
use Rattle.outer_syntax.specs.Names.{IsNamedSymbol}
use Rattle.outer_syntax.specs.Symbols.{IsInside}
use Rattle.outer_syntax.specs.Brackets.{opening, closing}
use Rattle.text_words.specs.Blanks.{is_blank}
use Rattle.outer_syntax.specs.Forms.{dotted}
use Rattle.outer_syntax.specs.Rows.{IsFirstRow}
use Rattle.outer_syntax.specs.Tokens.{IsToken, AreTokensBetween}
use Rattle.outer_syntax.specs.Headings.{names_at, AreTokens}
use Rattle.outer_syntax.specs.declared.bracket.Bracket.{Bracket}
use Rattle.outer_syntax.specs.declared.bracket.Bracket.TheVariants.{Comment, String, Cartouche}
use Rattle.outer_syntax.specs.declared.row.Row.{Row}
use Rattle.outer_syntax.specs.declared.row.Row.TheVariants.{Space, Enclosed, Error, Symbol, LongIdent, Word, Sym}
use Rattle.outer_syntax.specs.declared.token.Token.{Token}
use Rattle.outer_syntax.proofs.ClosingLemmas.{closes-end}
use Rattle.outer_syntax.proofs.EnclosedLemmas.{opens-whole}
use Rattle.outer_syntax.proofs.TokenLemmas.{row-some}
use Rattle.outer_syntax.proofs.CrossLemmas.{is_inner, blank-outer, named-end, Crosses, crossing, first-is, last-is}
use Rattle.outer_syntax.proofs.KnownWords.{is_word, identifier-word, dotted-word}

last-of : Bracket → ℕ
last-of Comment = 41
last-of String = 34
last-of Cartouche = 62

closing-last : (b : Bracket) → (front : List ℕ) × (closing b ≡ front ++ last-of b ∷ [])
unfolding last-of
closing-last Comment = (42 ∷ [], refl)
closing-last String = ([], refl)
closing-last Cartouche = (92 ∷ 60 ∷ 99 ∷ 108 ∷ 111 ∷ 115 ∷ 101 ∷ [], refl)

last-outer : (b : Bracket) → is_inner (last-of b) ≡ false
unfolding last-of
last-outer Comment = refl
last-outer String = refl
last-outer Cartouche = refl

-- the last scalar of a list that ends with it
last-read : (s front : List ℕ) (c n : ℕ) → s ≡ front ++ c ∷ [] → length s ≡ n → get_or s (n - 1) 0 ≡ c
last-read s front c n e size = ap (λ r. get_or r (n - 1) 0) e ∙ get_or_at front c [] 0 (n - 1) (omega (arith, size, ap length e, length-append front (c ∷ [])))

module _ (text : List ℕ) (from size : ℕ) where
  tok : List ℕ
  tok = take size (drop from text)

  tok-is : tok ≡ take size (drop from text)
  unfolding tok
  tok-is = refl

  tok-reads : (j : ℕ) → j < size → get_or tok j 0 ≡ get_or text (from + j) 0
  tok-reads j below = ap (λ r. get_or r j 0) tok-is ∙ get_or-take size (drop from text) j 0 below ∙ get_or-drop from text j 0

  -- a token that ends with a scalar that isn't within a symbol
  ends-outer : (front : List ℕ) (c start : ℕ) → 0 < size → size ≤ length (drop from text) → tok ≡ front ++ c ∷ [] → is_inner c ≡ false → Crosses text start (from + size) → ⊥
  ends-outer front c start some within e outer x =
      let size_is : length tok ≡ size = ap length tok-is ∙ length-take-le size (drop from text) within in
      let here : get_or text (from + size - 1) 0 ≡ c =
      let same : from + (size - 1) ≡ from + size - 1 = omega arith in
      ap (λ n. get_or text n 0) (sym same) ∙ sym (tok-reads (size - 1) (omega arith)) ∙ last-read tok front c size e size_is in
      both_ways (is_inner c) outer (ap is_inner (sym here) ∙ last-is x)

  -- a token without a backslash
  word : All (λ c. is_word c ≡ true) (take size (drop from text)) → size ≤ length (drop from text) → (start : ℕ) → from ≤ start → Crosses text start (from + size) → ⊥
  word each within start past x =
      let j : ℕ = start - from in
      let same : from + j ≡ start = omega arith in
      let below : j < size = omega (arith, x.after) in
      let here : get_or (take size (drop from text)) j 0 ≡ 92 =
      get_or-take size (drop from text) j 0 below ∙ get_or-drop from text j 0 ∙ ap (λ n. get_or text n 0) same ∙ first-is x in
      both_ways (is_word 92) refl (ap is_word (sym here) ∙ each j 0 (omega (arith, below, length-take-le size (drop from text) within)))

  -- no symbol that begins in the token goes over its end
  no-cross : (row : Row) → IsFirstRow (drop from text) row size → (start : ℕ) → from ≤ start → Crosses text start (from + size) → ⊥
  no-cross Space first start past x =
      let some = row-some Space (drop from text) size first in
      let last : is_blank (get_or tok (size - 1) 0) ≡ true = ap (λ r. is_blank (get_or r (size - 1) 0)) tok-is ∙ first.longest.fits.1 (size - 1) 0 (omega (arith, some, length-take-le size (drop from text) first.longest.within)) in
      let same : from + (size - 1) ≡ from + size - 1 = omega (arith, some) in
      blank-outer (get_or text (from + size - 1) 0) (ap is_blank (ap (λ n. get_or text n 0) (sym same) ∙ sym (tok-reads (size - 1) (omega (arith, some)))) ∙ last) (last-is x)
  no-cross (Enclosed b) first start past x =
      let form = first.longest.fits in
      let marks = form.2 in
      let end = closes-end b form.0 marks.0 1 (omega arith) marks.1 marks.2 in
      let last = closing-last b in
      let whole : tok ≡ (opening b ++ (end.0 ++ last.0)) ++ last-of b ∷ [] =
      tok-is ∙ form.1 ∙ ap (λ r. opening b ++ r) (end.1 ∙ ap (λ r. end.0 ++ r) last.1 ∙ sym (append_assoc end.0 last.0 (last-of b ∷ [])))
      ∙ sym (append_assoc (opening b) (end.0 ++ last.0) (last-of b ∷ [])) in
      ends-outer _ (last-of b) start (row-some (Enclosed b) (drop from text) size first) first.longest.within whole (last-outer b) x
  no-cross Error first start past x =
      let form = first.longest.fits in
      let all : length (drop from text) ≤ size = first.longest.longest (length (drop from text)) (omega arith) (form.0, form.1 ++ drop size (drop from text), take_all (length (drop from text)) (drop from text) (omega arith) ∙ opens-whole (opening form.0) (drop from text) size form.1 form.2) in
      omega (arith, all, x.within, x.longer, x.after, length-drop from text, length-drop start text)
  no-cross Symbol first start past x =
      let end = named-end (take size (drop from text)) first.longest.fits in
      ends-outer end.0 62 start (row-some Symbol (drop from text) size first) first.longest.within (tok-is ∙ end.1) refl x
  no-cross LongIdent first start past x =
      let form = first.longest.fits in
      let each : All (λ c. is_word c ≡ true) (take size (drop from text)) =
      subst (All (λ c. is_word c ≡ true)) (sym form.5) (All-append (λ c. is_word c ≡ true) form.0 (dotted form.1) (identifier-word form.0 form.2) (dotted-word form.1 form.4)) in
      word each first.longest.within start past x
  no-cross Word first start past x = word (identifier-word (take size (drop from text)) first.longest.fits) first.longest.within start past x
  no-cross Sym first start past x =
      let one : size ≡ 1 = sym (length-take-le size (drop from text) first.longest.within) ∙ first.longest.fits in
      let same : start ≡ from = omega (arith, one, past, x.after) in
      first.first Symbol (omega arith) x.len (subst (λ n. x.len ≤ length (drop n text)) same x.within) (subst (λ n. IsNamedSymbol (take x.len (drop n text))) same x.named)

stop-apart : (is_command : List ℕ → Bool) (text : List ℕ) (t : Token) → IsToken is_command text t → ((m : ℕ) → IsInside text m t.range.start → ⊥) → (m : ℕ) → IsInside text m t.range.stop → ⊥
stop-apart is_command text t (row, some, first, kind) before m (start, stop, boundary, at, after, over) =
    ⊎_elim
    (λ (less : start < t.range.start). before m (start, stop, boundary, at, less, omega arith))
    (λ (past : t.range.start ≤ start).
    let same : t.range.stop ≡ t.range.start + (t.range.stop - t.range.start) = omega arith in
    no-cross text t.range.start (t.range.stop - t.range.start) row first start past (subst (Crosses text start) same (crossing text start stop t.range.stop at after over)))
    (cases_lt start t.range.start)

apart : (names : ℕ → List ℕ → Bool) (text : List ℕ) (from to : ℕ) (ts : List Token) → AreTokensBetween names text from to ts → ((m : ℕ) → IsInside text m from → ⊥) → (m : ℕ) → All (λ (t : Token). (IsInside text m t.range.start → ⊥) × (IsInside text m t.range.stop → ⊥)) ts
apart names text from to [] same before m = All-nil (λ (t : Token). (IsInside text m t.range.start → ⊥) × (IsInside text m t.range.stop → ⊥))
apart names text from to (t ∷ ts) (starts, token, rest) before m =
    let begins = subst (λ p. (k : ℕ) → IsInside text k p → ⊥) (sym starts) before in
    let ends = stop-apart (names from) text t token begins in
    All-cons (λ (t : Token). (IsInside text m t.range.start → ⊥) × (IsInside text m t.range.stop → ⊥)) t ts (begins m, ends m) (apart names text t.range.stop to ts rest ends m)

pub tokens-apart : (text : List ℕ) (aliases : List (List ℕ)) (tokens : List Token) → AreTokens text aliases tokens → (m : ℕ) → All (λ (t : Token). (IsInside text m t.range.start → ⊥) × (IsInside text m t.range.stop → ⊥)) tokens
tokens-apart text aliases tokens (base, end, under, ends, is) m =
    apart (names_at end aliases) text 0 (length text) tokens is (λ k inside. omega (arith, inside.4)) m
