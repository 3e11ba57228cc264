-- The names in force are those of the aliases.
use Rattle.std.proofs.Common.{◌≡◌, IfOk, List, ℕ, subst}
use Rattle.outer_syntax.specs.Headings.{proper}
use Rattle.outer_syntax.specs.Lexing.{tokens_under}
use Rattle.outer_syntax.specs.Words.{is_in_force}
use Rattle.toplevel.proofs.tokens.source_tokens.Goals as goal

pub returns : goal.returns
returns c =
    subst (λ (names : List (List ℕ)). IfOk c.proper_under.result
    (λ v. v.items ≡ proper (tokens_under (λ _. is_in_force names) c.args.source.now)))
    c.names.ensures c.proper_under.ensures
