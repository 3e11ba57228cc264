-- Spans of tokens that are cut where the first ones end well and the others wait for a command.
use Rattle.std.proofs.Common.{◌≡◌, ◌⊎◌, inl, inr, ℕ, zero, suc, ◌≤◌, Bool, true, false, cond, List, [], ◌∷◌, ◌++◌, length, map, filter, sym, refl, ap, ◌∙◌, arith}
use Rattle.std.specs.Prelude.{if◌then◌else◌}
use Rattle.std.proofs.lemmas.Bool.{cond-true, cond-false}
use Rattle.pide_base.specs.declared.range.Range.{Range}
use Rattle.outer_syntax.specs.Kinds.{is_proper}
use Rattle.outer_syntax.specs.declared.token.Token.{Token}
use Rattle.command_spans.specs.Spans.{proper_token, command_token}
use Rattle.command_spans.specs.Cutting.{run_size, improper_size, rest_size, kind_from, first_span, spans_from, spans_of}
use Rattle.command_spans.specs.declared.span.Span.{Span}
use Rattle.command_spans.specs.declared.span.SpanKind.TheVariants.{Command, Malformed, Ignored}
use Rattle.buffer_rules.specs.Cuts.{is_command as is_command_span}
use Rattle.soundness_laws.proofs.SpanSizes.{EndsProper, Waits, proper_other, rest-over, rest-low, first-over}

-- no tokens, or they end well
abbrev pub Ended : List Token → Type 0
Ended ts = (ts ≡ []) ⊎ EndsProper ts

ended-tail : (t : Token) (xs : List Token) → Ended (t ∷ xs) → Ended xs × EndsProper (t ∷ xs)
ended-tail t xs (inl none) = absurd (cc (none))
ended-tail t [] (inr ends) = (inl refl, ends)
ended-tail t (u ∷ xs) (inr ends) = (inr ends, ends)

-- the spans of both parts
pub spans-over : (j : ℕ) (xs rest : List Token) → j ≤ length xs → Ended xs → Waits rest → spans_from j (xs ++ rest) ≡ spans_from j xs ++ spans_of rest
spans-over zero [] rest low ends w = refl
spans-over (suc j) [] rest low ends w = absurd (omega (arith, low))
spans-over (suc j) (t ∷ xs) rest low ends w = spans-over j xs rest (omega (arith, low)) (ended-tail t xs ends).0 w
spans-over zero (t ∷ xs) rest low ends w =
    let tail = ended-tail t xs ends in
    let more : spans_from (rest_size t (xs ++ rest)) (xs ++ rest) ≡ spans_from (rest_size t xs) xs ++ spans_of rest =
    ap (λ n. spans_from n (xs ++ rest)) (rest-over t xs rest tail.1 w) ∙ spans-over (rest_size t xs) xs rest (rest-low t xs) tail.0 w in
    λ i. first-over t xs rest tail.1 w i ∷ more i

-- the ranges of the commands among spans
abbrev pub ranges : List Span → List Range
ranges spans = map (λ s. s.range) (filter (λ s. is_command_span s.kind) spans)

pub ranges-append : (xs ys : List Span) → ranges (xs ++ ys) ≡ ranges xs ++ ranges ys
ranges-append [] ys = refl
ranges-append (s ∷ xs) ys = go (is_command_span s.kind) (ranges-append xs ys)
  where
    go : (b : Bool) → ranges (xs ++ ys) ≡ ranges xs ++ ranges ys
        → map (λ s. s.range) (cond b (s ∷ filter (λ s. is_command_span s.kind) (xs ++ ys)) (filter (λ s. is_command_span s.kind) (xs ++ ys)))
        ≡ map (λ s. s.range) (cond b (s ∷ filter (λ s. is_command_span s.kind) xs) (filter (λ s. is_command_span s.kind) xs)) ++ ranges ys
    go true e = ap (λ r. s.range ∷ r) e
    go false e = e

-- a span of improper tokens is no command
ignored : (t : Token) → is_proper t.kind ≡ false → is_command_span (kind_from t) ≡ false
ignored t e = ap is_command_span (cond-false (command_token t) Command _ (proper_other t.kind e) ∙ cond-false (proper_token t) Malformed Ignored e)

counted : (t : Token) → is_proper t.kind ≡ true → is_command_span (kind_from t) ≡ true
counted t e = go (command_token t) (proper_token t) e
  where
    go : (c p : Bool) → p ≡ true → is_command_span (if c then Command else (if p then Malformed else Ignored)) ≡ true
    go true p e = refl
    go false true e = refl
    go false false e = cc

pub ranges-ignored : (t : Token) (ts : List Token) (more : List Span) → is_proper t.kind ≡ false → ranges (first_span t ts ∷ more) ≡ ranges more
ranges-ignored t ts more e =
    ap (λ b. map (λ s. s.range) (cond b (first_span t ts ∷ filter (λ s. is_command_span s.kind) more) (filter (λ s. is_command_span s.kind) more))) (ignored t e)

pub ranges-counted : (t : Token) (ts : List Token) (more : List Span) → is_proper t.kind ≡ true → ranges (first_span t ts ∷ more) ≡ (first_span t ts).range ∷ ranges more
ranges-counted t ts more e =
    ap (λ b. map (λ s. s.range) (cond b (first_span t ts ∷ filter (λ s. is_command_span s.kind) more) (filter (λ s. is_command_span s.kind) more))) (counted t e)

-- the commands are those behind the improper tokens at the front
pub ranges-behind : (ts : List Token) → ranges (spans_from (improper_size ts) ts) ≡ ranges (spans_of ts)
ranges-behind [] = refl
ranges-behind (t ∷ ts) = go (proper_token t) refl
  where
    go : (b : Bool) → proper_token t ≡ b → ranges (spans_from (improper_size (t ∷ ts)) (t ∷ ts)) ≡ ranges (spans_of (t ∷ ts))
    go true e = ap (λ n. ranges (spans_from n (t ∷ ts))) (cond-true (proper_token t) 0 (suc (improper_size ts)) e)
    go false e =
        ap (λ n. ranges (spans_from n (t ∷ ts))) (cond-false (proper_token t) 0 (suc (improper_size ts)) e)
        ∙ sym (ranges-ignored t ts (spans_from (rest_size t ts) ts) e ∙ ap (λ n. ranges (spans_from n ts)) (cond-false (proper_token t) (run_size ts) (improper_size ts) e))

-- an improper token before others adds no command
pub ranges-improper : (t : Token) (ts : List Token) → is_proper t.kind ≡ false → ranges (spans_of (t ∷ ts)) ≡ ranges (spans_of ts)
ranges-improper t ts e =
    ranges-ignored t ts (spans_from (rest_size t ts) ts) e
    ∙ ap (λ n. ranges (spans_from n ts)) (cond-false (proper_token t) (run_size ts) (improper_size ts) e) ∙ ranges-behind ts
