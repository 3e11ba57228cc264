-- The first proper token of the source is the first under the names of the aliases.
use Rattle.std.proofs.Common.{sym, ap, ◌∙◌}
use Rattle.outer_syntax.specs.Headings.{proper}
use Rattle.outer_syntax.specs.Lexing.{tokens_under}
use Rattle.outer_syntax.specs.Words.{is_in_force}
use Rattle.mirror_rules.specs.Forking.{says_by}
use Rattle.mirror_rules.proofs.forking.may_fork.Goals as goal

pub returns-in-Some : goal.returns-in-Some
returns-in-Some c =
    let source = c.args.source.now in
    let aliases = c.args.aliases.now in
    let named = ap (λ names. proper (tokens_under (λ _. is_in_force names) source))
    (sym c.names.ensures) in
    c.is_by.ensures ∙ sym (ap (says_by aliases source) (named ∙ c.in-Some.ensures.1))

pub returns-in-None : goal.returns-in-None
returns-in-None c =
    let source = c.args.source.now in
    let aliases = c.args.aliases.now in
    let named = ap (λ names. proper (tokens_under (λ _. is_in_force names) source))
    (sym c.names.ensures) in
    sym (ap (says_by aliases source) (named ∙ c.in-None.ensures))
