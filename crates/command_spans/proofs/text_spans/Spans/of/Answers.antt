-- The tokens are the one list that the text is lexed to.
use Rattle.std.proofs.Common.{◌≡◌, ℕ, List, IfOk, ap, subst, ◌∙◌}
use Rattle.outer_syntax.specs.Headings.{AreTokens}
use Rattle.outer_syntax.specs.Lexing.{tokens_of}
use Rattle.outer_syntax.specs.declared.token.Token.{Token}
use Rattle.outer_syntax.proofs.KnownLexing.{are-tokens, same-lexed}
use Rattle.command_spans.specs.Cutting.{spans_of}
use Rattle.command_spans.specs.CutTexts.{Cuts, cut}
use Rattle.command_spans.proofs.text_spans.Spans.of.Goals as goal

pub returns : goal.returns
returns c =
    let text : List ℕ = c.args.text.now in
    let names : List (List ℕ) = c.in_ok-names.names in
    let tokens : List Token = c.in_ok-tokens.tokens.items in
    let under : names ≡ c.args.aliases.now = c.in_ok-names.ensures in
    let is : AreTokens text names tokens = subst (λ (ns : List (List ℕ)). AreTokens text ns tokens) c.as_slice.ensures c.in_ok-tokens.ensures in
    let lexed : tokens ≡ tokens_of text c.args.aliases.now = same-lexed text names tokens (tokens_of text names) is (are-tokens text names) ∙ ap (tokens_of text) under in
    let found : Cuts = record { aliases = names; tokens = tokens; spans = spans_of tokens } in
    let same : found ≡ cut text c.args.aliases.now = λ i. record { aliases = under i; tokens = lexed i; spans = spans_of (lexed i) } in
    subst (λ (x : Cuts). IfOk c.of_tokens.result (λ s. s ≡ x)) same c.of_tokens.ensures
