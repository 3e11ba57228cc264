-- Tokens and spans that all stand so many scalars further on.
use Rattle.std.proofs.Common.{◌≡◌, ℕ, zero, suc, ◌+◌, ◌-◌, ◌≤◌, Bool, true, false, cond, List, [], ◌∷◌, take, drop, map, filter, sym, refl, ap, ◌∙◌, subst, arith}
use Rattle.std.specs.Prelude.{if◌then◌else◌}
use Rattle.std.specs.List.{slice_index_or}
use Rattle.pide_base.specs.declared.range.Range.{Range}
use Rattle.outer_syntax.specs.Kinds.{is_proper}
use Rattle.outer_syntax.specs.Stages.{after_word, after_token, after_tokens}
use Rattle.outer_syntax.specs.Tokens.{IsToken, text_of}
use Rattle.outer_syntax.specs.declared.stage.Stage.{Stage}
use Rattle.outer_syntax.specs.declared.token.Token.{Token}
use Rattle.outer_syntax.proofs.KnownKept.{moved-token}
use Rattle.outer_syntax.proofs.KnownLexing.{AreStaged}
use Rattle.command_spans.specs.Spans.{proper_token, command_token}
use Rattle.command_spans.specs.Cutting.{one_more, run_size, improper_size, rest_size, kind_from, first_span, spans_from, spans_of}
use Rattle.command_spans.specs.declared.span.Span.{Span}
use Rattle.buffer_rules.specs.Cuts.{is_command as is_command_span}
use Rattle.soundness_laws.proofs.SpanLemmas.{ranges}

module _ (d : ℕ) where
  abbrev pub shift : Range → Range
  shift r = record { start = r.start + d; stop = r.stop + d }

  abbrev pub shifted : Token → Token
  shifted t = record { kind = t.kind; range = shift t.range }

  abbrev shifted_span : Span → Span
  shifted_span s = record { kind = s.kind; range = shift s.range }

  moved-run : (ts : List Token) → run_size (map shifted ts) ≡ run_size ts
  moved-run [] = refl
  moved-run (t ∷ ts) = ap (λ n. if command_token t then 0 else (if proper_token t then suc n else one_more n)) (moved-run ts)

  moved-improper : (ts : List Token) → improper_size (map shifted ts) ≡ improper_size ts
  moved-improper [] = refl
  moved-improper (t ∷ ts) = ap (λ n. if proper_token t then 0 else suc n) (moved-improper ts)

  moved-rest : (t : Token) (ts : List Token) → rest_size (shifted t) (map shifted ts) ≡ rest_size t ts
  moved-rest t ts = λ i. if proper_token t then moved-run ts i else moved-improper ts i

  moved-index : (ts : List Token) (n : ℕ) (t : Token) → slice_index_or (map shifted ts) n (shifted t) ≡ shifted (slice_index_or ts n t)
  moved-index [] n t = refl
  moved-index (u ∷ ts) zero t = refl
  moved-index (u ∷ ts) (suc n) t = moved-index ts n t

  moved-first : (t : Token) (ts : List Token) → first_span (shifted t) (map shifted ts) ≡ shifted_span (first_span t ts)
  moved-first t ts =
      let last : slice_index_or (map shifted (t ∷ ts)) (rest_size (shifted t) (map shifted ts)) (shifted t) ≡ shifted (slice_index_or (t ∷ ts) (rest_size t ts) t) =
      ap (λ n. slice_index_or (map shifted (t ∷ ts)) n (shifted t)) (moved-rest t ts) ∙ moved-index (t ∷ ts) (rest_size t ts) t in
      λ i. record { kind = kind_from t; range = record { start = t.range.start + d; stop = (last i).range.stop } }

  moved-spans : (j : ℕ) (ts : List Token) → spans_from j (map shifted ts) ≡ map shifted_span (spans_from j ts)
  moved-spans j [] = refl
  moved-spans (suc j) (t ∷ ts) = moved-spans j ts
  moved-spans zero (t ∷ ts) =
      let more : spans_from (rest_size (shifted t) (map shifted ts)) (map shifted ts) ≡ map shifted_span (spans_from (rest_size t ts) ts) =
      ap (λ n. spans_from n (map shifted ts)) (moved-rest t ts) ∙ moved-spans (rest_size t ts) ts in
      λ i. moved-first t ts i ∷ more i

  moved-ranges : (ss : List Span) → ranges (map shifted_span ss) ≡ map shift (ranges ss)
  moved-ranges [] = refl
  moved-ranges (s ∷ ss) = go (is_command_span s.kind) (moved-ranges ss)
    where
      go : (b : Bool) → ranges (map shifted_span ss) ≡ map shift (ranges ss)
          → map (λ x. x.range) (cond b (shifted_span s ∷ filter (λ x. is_command_span x.kind) (map shifted_span ss)) (filter (λ x. is_command_span x.kind) (map shifted_span ss)))
          ≡ map shift (map (λ x. x.range) (cond b (s ∷ filter (λ x. is_command_span x.kind) ss) (filter (λ x. is_command_span x.kind) ss)))
      go true e = ap (λ r. shift s.range ∷ r) e
      go false e = e

  -- the commands of moved tokens are those of the tokens, moved
  pub ranges-moved : (ts : List Token) → ranges (spans_of (map shifted ts)) ≡ map shift (ranges (spans_of ts))
  ranges-moved ts = ap ranges (moved-spans zero ts) ∙ moved-ranges (spans_of ts)

  -- where the same follows in two texts, from a place in the one and so many scalars further on in the other
  module _ (old new : List ℕ) (place : ℕ) (same : (at : ℕ) → place ≤ at → drop at old ≡ drop (at + d) new) where
    pub moved-text : (t : Token) → place ≤ t.range.start → text_of new (shifted t) ≡ text_of old t
    moved-text t behind =
        let size : t.range.stop + d - (t.range.start + d) ≡ t.range.stop - t.range.start = omega arith in
        λ i. take (size i) (sym (same t.range.start behind) i)

    moved-after : (s : Stage) (t : Token) → place ≤ t.range.start → after_token new s (shifted t) ≡ after_token old s t
    moved-after s t behind = ap (λ w. if is_proper t.kind then after_word s (t.kind, w) else s) (moved-text t behind)

    one-moved : (is_command : List ℕ → Bool) (t : Token) → place ≤ t.range.start → IsToken is_command old t → IsToken is_command new (shifted t)
    one-moved is_command t behind token =
        moved-token is_command old new t (shifted t) (same t.range.start behind) (omega arith) (omega (arith, token.1)) refl token

    pub staged-moved : (names : List (List ℕ)) (s : Stage) (from to : ℕ) (ts : List Token) → place ≤ from → AreStaged names old s from to ts → AreStaged names new s (from + d) (to + d) (map shifted ts)
    staged-moved names s from to [] behind is = ap (λ n. n + d) is
    staged-moved names s from to (t ∷ ts) behind is =
        let here : place ≤ t.range.start = omega (arith, behind, is.0.0) in (
          (ap (λ n. n + d) is.0.0, one-moved _ t here is.0.1),
          subst (λ n. AreStaged names new n (t.range.stop + d) (to + d) (map shifted ts)) (sym (moved-after s t here))
              (staged-moved names (after_token old s t) t.range.stop to ts (omega (arith, here, is.0.1.1)) is.1),
        )

    pub after-moved : (names : List (List ℕ)) (s : Stage) (from to : ℕ) (ts : List Token) → place ≤ from → AreStaged names old s from to ts → after_tokens new s (map shifted ts) ≡ after_tokens old s ts
    after-moved names s from to [] behind is = refl
    after-moved names s from to (t ∷ ts) behind is =
        let here : place ≤ t.range.start = omega (arith, behind, is.0.0) in
        ap (λ n. after_tokens new n (map shifted ts)) (moved-after s t here)
        ∙ after-moved names (after_token old s t) t.range.stop to ts (omega (arith, here, is.0.1.1)) is.1
