-- Where tokens between two places begin and end, and that a span has some.
use Rattle.std.proofs.Common.{◌≡◌, ℕ, ◌<◌, ◌≤◌, Bool, List, [], ◌∷◌, Some, subst, arith}
use Rattle.std.specs.Prelude.{slice_get}
use Rattle.outer_syntax.specs.Tokens.{AreTokensBetween}
use Rattle.outer_syntax.specs.declared.token.Token.{Token}
use Rattle.command_spans.specs.Spans.{IsSpan}
use Rattle.command_spans.specs.declared.span.SpanKind.{SpanKind}
use Rattle.command_spans.specs.declared.span.SpanKind.TheVariants.{Command, Malformed, Ignored}

module _ (names : ℕ → List ℕ → Bool) (text : List ℕ) where
  pub ends : (from to : ℕ) (tokens : List Token) → AreTokensBetween names text from to tokens → from ≤ to
  ends from to [] are = omega (arith, are)
  ends from to (t ∷ ts) are = let longer = are.1.1 in omega (arith, are.0, longer, ends t.range.stop to ts are.2)

  pub starts : (from to : ℕ) (tokens : List Token) (first : Token) → AreTokensBetween names text from to tokens
      → slice_get tokens 0 ≡ Some first → first.range.start ≡ from
  starts from to [] first are at = absurd (cc)
  starts from to (t ∷ ts) first are at = let same : t ≡ first = cc in subst (λ (x : Token). x.range.start ≡ from) same are.0

-- a span has a token at least
pub some_tokens : (kind : SpanKind) (tokens : List Token) (n : ℕ) → IsSpan kind tokens n → 0 < n
some_tokens Command tokens n is = is.1.some
some_tokens Malformed tokens n is = is.2.some
some_tokens Ignored tokens n is = is.0
