use Rattle.std.proofs.Common.{ℕ, subst, refl}
use Rattle.std.proofs.lemmas.List.{take_rest}
use Rattle.outer_syntax.specs.Words.{is_in_force}
use Rattle.outer_syntax.specs.Rows.{IsFirstRow}
use Rattle.outer_syntax.proofs.TokenLemmas.{token-of}
use Rattle.outer_syntax.proofs.lexer.next_token.Goals as goal

pub returns : goal.returns
returns c =
    let text = c.args.text.now in
    let size : ℕ = c.first_row-row.result.1 in
    let first = subst (λ r. IsFirstRow r c.first_row-row.result.0 size) (take_rest text c.args.place) c.first_row-row.ensures in
    (refl, token-of (is_in_force c.args.names.now) text c.first_row-row.result.0 _ size refl first c.kind_of-kind.ensures)
