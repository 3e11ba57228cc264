-- The function gives the list of spans.
use Rattle.std.proofs.Common.{◌≡◌, ℕ, zero, suc, ◌-◌, ◌≤◌, List, [], ◌∷◌, length, get_or, drop, sym, refl, ap, ◌∙◌, subst, arith}
use Rattle.std.specs.Prelude.{slice_get}
use Rattle.outer_syntax.specs.Lexing.{tokens_of}
use Rattle.outer_syntax.specs.declared.token.Token.{Token}
use Rattle.outer_syntax.proofs.KnownLexing.{are-tokens, same-lexed}
use Rattle.command_spans.specs.Spans.{proper_token, command_token, IsSpan, AreSpansOf, AreSpans}
use Rattle.command_spans.specs.Cutting.{rest_size, kind_from, spans_from, spans_of, spans_in}
use Rattle.command_spans.specs.declared.span.Span.{Span}
use Rattle.command_spans.proofs.SpanLemmas.{span-within, got}
use Rattle.command_spans.proofs.SpanLaws.{one-cut}
use Rattle.command_spans.proofs.RunLemmas.{first-is}

are-from : (k : ℕ) (ts : List Token) → k ≤ length ts → AreSpansOf (drop k ts) (spans_from k ts)
are-from zero [] within = refl
are-from (suc k) [] within = absurd (omega arith)
are-from (suc k) (t ∷ ts) within = are-from k ts (omega arith)
are-from zero (t ∷ ts) within =
    let n : ℕ = rest_size t ts in
    let is : IsSpan (kind_from t) (t ∷ ts) (suc n) = first-is t ts (command_token t) (proper_token t) refl refl in
    let fits : suc n ≤ length (t ∷ ts) = (span-within (kind_from t) (t ∷ ts) (suc n) is).1 in
    let size : suc n - 1 ≡ n = omega arith in
    (suc n, is, (t, get_or (t ∷ ts) n t, refl, ap (slice_get (t ∷ ts)) size ∙ got (t ∷ ts) n t (omega arith), refl, refl), are-from n ts (omega arith))

pub are-spans : (ts : List Token) → AreSpansOf ts (spans_of ts)
are-spans ts = are-from 0 ts (omega arith)

pub spans-are : (text : List ℕ) (aliases : List (List ℕ)) → AreSpans text aliases (spans_in text aliases)
spans-are text aliases = (tokens_of text aliases, are-tokens text aliases, are-spans (tokens_of text aliases))

pub one-spans : (text : List ℕ) (aliases : List (List ℕ)) (a b : List Span) → AreSpans text aliases a → AreSpans text aliases b → a ≡ b
one-spans text aliases a b (ts, tokens, cut) (us, tokens', cut') =
    one-cut ts a b cut (subst (λ x. AreSpansOf x b) (sym (same-lexed text aliases ts us tokens tokens')) cut')
