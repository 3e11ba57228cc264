-- The spans of a text: how its tokens are cut (after Isabelle's command spans).
use Rattle.std.specs.Prelude.{◌≡◌, ℕ, ◌-◌, ◌<◌, ◌≤◌, Bool, true, false, List, [], ◌∷◌, length, drop, Some, slice_get}
use Rattle.std.specs.List.{AllWithin, slice_index_or}
use Rattle.outer_syntax.specs.Kinds.{is_proper, is_command}
use Rattle.outer_syntax.specs.Headings.{AreTokens}
use Rattle.outer_syntax.specs.declared.token.Token.{Token}
use Rattle.command_spans.specs.declared.span.SpanKind.{SpanKind}
use Rattle.command_spans.specs.declared.span.SpanKind.TheVariants.{Command, Malformed, Ignored}
use Rattle.command_spans.specs.declared.span.Span.{Span}

-- at this place there is a token of which the test says so
abbrev pub Is : (Token → Bool) → Bool → List Token → ℕ → Type 0
Is test answer tokens k = (d : Token) → test (slice_index_or tokens k d) ≡ answer

-- the token is proper
abbrev pub proper_token : Token → Bool
proper_token t = is_proper t.kind

-- the token is a command name
abbrev pub command_token : Token → Bool
command_token t = is_command t.kind

-- the first n tokens run from the first one to the last proper one before the next command: between
-- that and the next command, or the end, there are improper ones alone
pub record RunsTo (tokens : List Token) (n : ℕ) : Type 0 where
  pub some : 0 < n
  pub within : n ≤ length tokens
  pub no_other : AllWithin (λ t. command_token t ≡ false) tokens 1 n
  pub ends : Is proper_token true tokens (n - 1)
  pub next : (m : ℕ) × (n ≤ m) × (m ≤ length tokens)
      × AllWithin (λ t. proper_token t ≡ false) tokens n m
      × ((m < length tokens) → Is command_token true tokens m)

-- the first n tokens are a span of the kind: a command and what belongs to it; what stands before
-- the first command; or a longest run of improper tokens
abbrev pub IsSpan : SpanKind → List Token → ℕ → Type 0
IsSpan Command tokens n = Is command_token true tokens 0 × RunsTo tokens n
IsSpan Malformed tokens n =
    Is command_token false tokens 0 × Is proper_token true tokens 0 × RunsTo tokens n
IsSpan Ignored tokens n = (0 < n) × (n ≤ length tokens)
    × AllWithin (λ t. proper_token t ≡ false) tokens 0 n
    × ((n < length tokens) → Is proper_token true tokens n)

-- the range goes from the first token to the last of the first n
abbrev pub Covers : Span → List Token → ℕ → Type 0
Covers s tokens n = (first : Token) × (last : Token)
    × (slice_get tokens 0 ≡ Some first) × (slice_get tokens (n - 1) ≡ Some last)
    × (s.range.start ≡ first.range.start) × (s.range.stop ≡ last.range.stop)

-- the tokens are cut into these spans, one after the other
abbrev pub AreSpansOf : List Token → List Span → Type 0
AreSpansOf tokens [] = tokens ≡ []
AreSpansOf tokens (s ∷ ss) =
    (n : ℕ) × IsSpan s.kind tokens n × Covers s tokens n × AreSpansOf (drop n tokens) ss

-- the spans of the text under the aliases
abbrev pub AreSpans : List ℕ → List (List ℕ) → List Span → Type 0
AreSpans text aliases spans =
    (tokens : List Token) × AreTokens text aliases tokens × AreSpansOf tokens spans
