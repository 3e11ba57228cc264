-- A span more of the tokens.
use Rattle.std.proofs.Common.{◌≡◌, ℕ, zero, suc, ◌+◌, ◌-◌, ◌<◌, ◌≤◌, Some, List, [], ◌∷◌, length, get_or, drop, sym, refl, ap, ◌∙◌, subst, arith, get_or-drop}
use Rattle.std.specs.Prelude.{slice_get}
use Rattle.std.proofs.lemmas.List.{drop-drop}
use Rattle.outer_syntax.specs.declared.token.Token.{Token}
use Rattle.command_spans.specs.Spans.{IsSpan, AreSpansOf}
use Rattle.command_spans.specs.declared.span.SpanKind.{SpanKind}
use Rattle.command_spans.specs.declared.span.SpanKind.TheVariants.{Command, Malformed, Ignored}
use Rattle.command_spans.specs.declared.span.Span.{Span}

-- a span has a token, and no more than there are
pub span-within : (k : SpanKind) (ts : List Token) (n : ℕ) → IsSpan k ts n → (0 < n) × (n ≤ length ts)
span-within Command ts n is = (is.1.some, is.1.within)
span-within Malformed ts n is = (is.2.some, is.2.within)
span-within Ignored ts n is = (is.0, is.1)

pub got : (ts : List Token) (k : ℕ) (d : Token) → k < length ts → slice_get ts k ≡ Some (get_or ts k d)
got [] k d below = absurd (omega arith)
got (t ∷ ts) zero d below = refl
got (t ∷ ts) (suc k) d below = got ts k d (omega arith)

pub span-more : (tokens : List Token) (at n : ℕ) (s : Span) (d : Token) → at < length tokens → IsSpan s.kind (drop at tokens) n → s.range.start ≡ (get_or tokens at d).range.start → s.range.stop ≡ (get_or tokens (at + n - 1) d).range.stop → (ss : List Span) → AreSpansOf (drop (at + n) tokens) ss → AreSpansOf (drop at tokens) (s ∷ ss)
span-more tokens at n s d below is starts stops ss rest =
    let within = span-within s.kind (drop at tokens) n is in
    let first : at + 0 ≡ at = omega arith in
    let last : at + (n - 1) ≡ at + n - 1 = omega (arith, within.0) in (
      n,
      is,
      (
        get_or tokens at d,
        get_or tokens (at + n - 1) d,
        got (drop at tokens) 0 d (omega (arith, within.0, within.1)) ∙ ap Some (get_or-drop at tokens 0 d ∙ ap (λ k. get_or tokens k d) first),
        got (drop at tokens) (n - 1) d (omega (arith, within.0, within.1)) ∙ ap Some (get_or-drop at tokens (n - 1) d ∙ ap (λ k. get_or tokens k d) last),
        starts,
        stops,
      ),
      subst (λ r. AreSpansOf r ss) (sym (drop-drop n at tokens)) rest,
    )
