-- The tokens of a piece of a text that begins and ends where tokens do.
use Rattle.std.proofs.Common.{◌≡◌, ℕ, ◌+◌, ◌-◌, ◌<◌, ◌≤◌, Bool, true, false, List, [], ◌∷◌, map, take, drop, Some, refl, sym, ap, subst, ◌∙◌, arith}
use Rattle.std.proofs.lemmas.List.{drop-drop, drop-take}
use Rattle.std.specs.Prelude.{if◌then◌else◌, is_some}
use Rattle.text_words.specs.Pieces.{text_between}
use Rattle.outer_syntax.specs.Kinds.{is_proper}
use Rattle.outer_syntax.specs.Headings.{proper, words}
use Rattle.outer_syntax.specs.Renaming.{is_word, renamed}
use Rattle.outer_syntax.specs.Rows.{IsFirstRow}
use Rattle.outer_syntax.specs.Stages.{after_word, after_token, is_ended, given, end_from}
use Rattle.outer_syntax.specs.Tokens.{text_of, IsToken}
use Rattle.outer_syntax.specs.Words.{kind_of, is_in_force}
use Rattle.outer_syntax.specs.declared.row.Row.TheVariants.{Word}
use Rattle.outer_syntax.specs.declared.stage.Stage.{Stage}
use Rattle.outer_syntax.specs.declared.token.Token.{Token}
use Rattle.outer_syntax.proofs.KnownLexing.{AreStaged, staged-rises}
use Rattle.buffer_laws.proofs.CutRows.{take_within, cut_row}

module _ (text : List ℕ) (a b : ℕ) where
  abbrev pub piece : List ℕ
  piece = text_between text a b

  abbrev pub shift : Token → Token
  shift t = record t { range = record { start = t.range.start - a; stop = t.range.stop - a } }

  rest_of : (p : ℕ) → a ≤ p → p ≤ b → drop (p - a) piece ≡ take (b - p) (drop p text)
  rest_of p low high =
      let both : b - a ≡ (p - a) + (b - p) = omega (arith, low, high) in
      ap (λ k. drop (p - a) (take k (drop a text))) both ∙ drop-take (p - a) (b - p) (drop a text)
      ∙ ap (take (b - p)) (drop-drop (p - a) a text ∙ ap (λ k. drop k text) (omega (arith, low)))

  text_same : (t : Token) → a ≤ t.range.start → t.range.start < t.range.stop → t.range.stop ≤ b → text_of piece (shift t) ≡ text_of text t
  text_same t low some high =
      let long : (t.range.stop - a) - (t.range.start - a) ≡ t.range.stop - t.range.start = omega (arith, low, some) in
      ap (λ n. take n (drop (t.range.start - a) piece)) long
      ∙ ap (take (t.range.stop - t.range.start)) (rest_of t.range.start low (omega (arith, some, high)))
      ∙ take_within (t.range.stop - t.range.start) (b - t.range.start) (drop t.range.start text) (omega (arith, high))

  token_moved : (names : List ℕ → Bool) (t : Token) → a ≤ t.range.start → t.range.stop ≤ b → IsToken names text t → IsToken names piece (shift t)
  token_moved names t low high (row, some, first, kind) =
      let long : t.range.stop - t.range.start ≡ (t.range.stop - a) - (t.range.start - a) = omega (arith, low, some) in
      let cut : IsFirstRow (take (b - t.range.start) (drop t.range.start text)) row (t.range.stop - t.range.start) =
      cut_row row (drop t.range.start text) (t.range.stop - t.range.start) (b - t.range.start) first (omega (arith, high)) in (
        row,
        omega (arith, low, some),
        subst (IsFirstRow (drop (t.range.start - a) piece) row) long
            (subst (λ xs. IsFirstRow xs row (t.range.stop - t.range.start)) (sym (rest_of t.range.start low (omega (arith, some, high)))) cut),
        kind ∙ ap (kind_of names row) (sym (text_same t low some high)),
      )

  stage_same : (t : Token) (s : Stage) → text_of piece (shift t) ≡ text_of text t → after_token piece s (shift t) ≡ after_token text s t
  stage_same t s same = ap (λ x. if is_proper t.kind then after_word s (t.kind, x) else s) same

  abbrev based : Token → Token
  based t = renamed (is_in_force []) text t

  abbrev based_piece : Token → Token
  based_piece t = renamed (is_in_force []) piece (shift t)

  kind_same : (t : Token) → text_of piece (shift t) ≡ text_of text t → (based_piece t).kind ≡ (based t).kind
  kind_same t same = go (is_word t.kind)
    where
      go : (c : Bool) → (if c then record (shift t) { kind = kind_of (is_in_force []) Word (text_of piece (shift t)) } else shift t).kind
          ≡ (if c then record t { kind = kind_of (is_in_force []) Word (text_of text t) } else t).kind
      go true = ap (kind_of (is_in_force []) Word) same
      go false = refl

  words_same : (t : Token) → text_of piece (shift t) ≡ text_of text t → text_of piece (based_piece t) ≡ text_of text (based t)
  words_same t same = go (is_word t.kind)
    where
      go : (c : Bool) → text_of piece (if c then record (shift t) { kind = kind_of (is_in_force []) Word (text_of piece (shift t)) } else shift t)
          ≡ text_of text (if c then record t { kind = kind_of (is_in_force []) Word (text_of text t) } else t)
      go true = same
      go false = same

  module _ (aliases : List (List ℕ)) where
    pub all_moved : (s : Stage) (from to : ℕ) (ts : List Token) → a ≤ from → to ≤ b → AreStaged aliases text s from to ts
        → AreStaged aliases piece s (from - a) (to - a) (map shift ts)
    all_moved s from to [] low high same = ap (λ p. p - a) same
    all_moved s from to (t ∷ ts) low high ((start, token), rest) =
        let first : a ≤ t.range.start = omega (arith, start, low) in
        let last : t.range.stop ≤ b = omega (arith, high, staged-rises aliases text (after_token text s t) t.range.stop to ts rest) in
        let same = text_same t first token.1 last in (
          (ap (λ p. p - a) start, token_moved (is_in_force (given s aliases)) t first last token),
          subst (λ q. AreStaged aliases piece q (t.range.stop - a) (to - a) (map shift ts)) (sym (stage_same t s same))
              (all_moved (after_token text s t) t.range.stop to ts (omega (arith, first, token.1)) high rest),
        )

    -- a header ends in both or in neither
    pub end_moved : (s : Stage) (from to : ℕ) (ts : List Token) → a ≤ from → to ≤ b → AreStaged aliases text s from to ts
        → is_some (end_from piece s (map shift ts)) ≡ is_some (end_from text s ts)
    end_moved s from to [] low high same = refl
    end_moved s from to (t ∷ ts) low high ((start, token), rest) =
        let first : a ≤ t.range.start = omega (arith, start, low) in
        let last : t.range.stop ≤ b = omega (arith, high, staged-rises aliases text (after_token text s t) t.range.stop to ts rest) in
        let same = text_same t first token.1 last in
        ap (λ q. is_some (if is_ended q then Some (t.range.stop - a) else end_from piece q (map shift ts))) (stage_same t s same)
        ∙ go (is_ended (after_token text s t))
        (end_moved (after_token text s t) t.range.stop to ts (omega (arith, first, token.1)) high rest)
      where
        go : (c : Bool) → is_some (end_from piece (after_token text s t) (map shift ts)) ≡ is_some (end_from text (after_token text s t) ts)
            → is_some (if c then Some (t.range.stop - a) else end_from piece (after_token text s t) (map shift ts))
            ≡ is_some (if c then Some t.range.stop else end_from text (after_token text s t) ts)
        go true more = refl
        go false more = more

    -- both have the same proper words without aliases
    pub words_moved : (s : Stage) (from to : ℕ) (ts : List Token) → a ≤ from → to ≤ b → AreStaged aliases text s from to ts
        → words piece (proper (map (λ t. renamed (is_in_force []) piece t) (map shift ts))) ≡ words text (proper (map based ts))
    words_moved s from to [] low high same = refl
    words_moved s from to (t ∷ ts) low high ((start, token), rest) =
        let first : a ≤ t.range.start = omega (arith, start, low) in
        let last : t.range.stop ≤ b = omega (arith, high, staged-rises aliases text (after_token text s t) t.range.stop to ts rest) in
        let same = text_same t first token.1 last in
        let kinds = kind_same t same in
        let texts = words_same t same in
        let more = words_moved (after_token text s t) t.range.stop to ts (omega (arith, first, token.1)) high rest in
        ap (λ k. words piece (if is_proper k then based_piece t ∷ proper (map (λ u. renamed (is_in_force []) piece u) (map shift ts))
        else proper (map (λ u. renamed (is_in_force []) piece u) (map shift ts)))) kinds
        ∙ go (is_proper (based t).kind) kinds texts more
      where
        go : (c : Bool) → (based_piece t).kind ≡ (based t).kind → text_of piece (based_piece t) ≡ text_of text (based t)
            → words piece (proper (map (λ u. renamed (is_in_force []) piece u) (map shift ts))) ≡ words text (proper (map based ts))
            → words piece (if c then based_piece t ∷ proper (map (λ u. renamed (is_in_force []) piece u) (map shift ts))
            else proper (map (λ u. renamed (is_in_force []) piece u) (map shift ts)))
            ≡ words text (if c then based t ∷ proper (map based ts) else proper (map based ts))
        go true kinds texts more =
            ap (λ k. (k, text_of piece (based_piece t)) ∷ words piece (proper (map (λ u. renamed (is_in_force []) piece u) (map shift ts)))) kinds
            ∙ ap (λ x. ((based t).kind, x) ∷ words piece (proper (map (λ u. renamed (is_in_force []) piece u) (map shift ts)))) texts
            ∙ ap (λ ws. ((based t).kind, text_of text (based t)) ∷ ws) more
        go false kinds texts more = more
