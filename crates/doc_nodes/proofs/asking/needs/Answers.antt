use Rattle.std.proofs.Common.{◌≡◌, IfOk, ap, ◌∙◌, subst, List}
use Rattle.std.specs.Option.{option_and_then}
use Rattle.outer_syntax.specs.Headings.{proper}
use Rattle.outer_syntax.specs.Lexing.{tokens_under}
use Rattle.outer_syntax.specs.Words.{is_in_force}
use Rattle.outer_syntax.specs.declared.token.Token.{Token}
use Rattle.doc_nodes.specs.Needs.{asked_by, just_two, source_tokens}
use Rattle.doc_nodes.proofs.asking.needs.Goals as goal

pub returns : goal.returns
returns c =
    let source = c.args.source.now in
    let aliases = c.args.aliases.now in
    let same : c.deref.result.now ≡ source_tokens aliases source =
    c.deref.ensures.value ∙ c.in_ok-proper.ensures
    ∙ ap (λ names. proper (tokens_under (λ _. is_in_force names) source)) c.names.ensures
    in
    subst (λ (tokens : List Token). IfOk c.of_tokens.result
    (λ found. found ≡ option_and_then (asked_by source aliases) (just_two tokens))) same c.of_tokens.ensures
