-- The spans of tokens and of a text as a function (this project's own).
use Rattle.std.specs.Prelude.{ℕ, zero, suc, if◌then◌else◌, List, [], ◌∷◌}
use Rattle.std.specs.List.{slice_index_or}
use Rattle.outer_syntax.specs.Lexing.{tokens_of}
use Rattle.outer_syntax.specs.declared.token.Token.{Token}
use Rattle.command_spans.specs.Spans.{proper_token, command_token}
use Rattle.command_spans.specs.declared.span.SpanKind.{SpanKind}
use Rattle.command_spans.specs.declared.span.SpanKind.TheVariants.{Command, Malformed, Ignored}
use Rattle.command_spans.specs.declared.span.Span.{Span}

-- one more of what there is some of
abbrev pub one_more : ℕ → ℕ
one_more zero = 0
one_more (suc n) = suc (suc n)

-- how many of these tokens there are up to the last proper one before the next command
abbrev pub run_size : List Token → ℕ
run_size [] = 0
run_size (t ∷ ts) = if command_token t then 0
    else (if proper_token t then suc (run_size ts) else one_more (run_size ts))

-- how many improper tokens there are at the front
abbrev pub improper_size : List Token → ℕ
improper_size [] = 0
improper_size (t ∷ ts) = if proper_token t then 0 else suc (improper_size ts)

-- how many tokens of a span follow its first one
abbrev pub rest_size : Token → List Token → ℕ
rest_size t ts = if proper_token t then run_size ts else improper_size ts

-- the kind of the span that begins with the token
abbrev pub kind_from : Token → SpanKind
kind_from t = if command_token t then Command else (if proper_token t then Malformed else Ignored)

-- the first span of these tokens
abbrev pub first_span : Token → List Token → Span
first_span t ts = record {
  kind = kind_from t;
  range = record {
    start = t.range.start;
    stop = (slice_index_or (t ∷ ts) (rest_size t ts) t).range.stop;
  };
}

-- the spans of the tokens whose first ones are left out
abbrev pub spans_from : ℕ → List Token → List Span
spans_from left_out [] = []
spans_from (suc k) (t ∷ ts) = spans_from k ts
spans_from zero (t ∷ ts) = first_span t ts ∷ spans_from (rest_size t ts) ts

-- the spans of the tokens: `AreSpansOf` holds of just this list
abbrev pub spans_of : List Token → List Span
spans_of tokens = spans_from 0 tokens

-- the spans of the text under the aliases: `AreSpans` holds of just this list
abbrev pub spans_in : List ℕ → List (List ℕ) → List Span
spans_in text aliases = spans_of (tokens_of text aliases)
