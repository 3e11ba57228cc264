-- The spans are the one list that the tokens are cut into.
use Rattle.std.proofs.Common.{List, ap, subst}
use Rattle.outer_syntax.specs.declared.token.Token.{Token}
use Rattle.command_spans.specs.declared.span.Span.{Span}
use Rattle.command_spans.specs.Spans.{AreSpansOf}
use Rattle.command_spans.specs.Cutting.{spans_of}
use Rattle.command_spans.proofs.SpanLaws.{one-cut}
use Rattle.command_spans.proofs.CuttingLemmas.{are-spans}
use Rattle.command_spans.proofs.text_spans.Spans.of_tokens.Goals as goal

pub returns : goal.returns
returns c =
    let tokens : List Token = c.args.tokens.items in
    let spans : List Span = c.in_ok-spans.spans.items in
    let cut = subst (λ (ts : List Token). AreSpansOf ts spans) c.deref.ensures.value c.in_ok-spans.ensures in
    ap (λ (ss : List Span). record { aliases = c.args.names; tokens = tokens; spans = ss }) (one-cut tokens spans (spans_of tokens) cut (are-spans tokens))
