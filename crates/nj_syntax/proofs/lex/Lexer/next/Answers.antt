use Rattle.std.proofs.Common.{rules, ◌≡◌, Some, None, false, drop, ap, ◌∙◌, sym, arith}
use Rattle.text_words.specs.Blanks.{is_blank}
use Rattle.nj_syntax.specs.Lexis.{first_token}
use Rattle.nj_syntax.proofs.TokensLemmas.{stray_next, token_next, passed_on}
use Rattle.nj_syntax.proofs.lex.Lexer.next.Goals as goal

pub returns-in_default-clause-value : goal.returns-in_default-clause-value
returns-in_default-clause-value c =
    let ink : is_blank c.index-text-at.result ≡ false = search rules in
    let none : first_token (drop c.blanks.at c.args.text.now) ≡ None =
    ap first_token (sym (passed_on c.args.text.now c.blanks.at)) ∙ (sym c.in_ok-token.ensures.value ∙ c.in_default.is) in
    c.blanks.invariant.reads ∙ stray_next c.args.text.now c.blanks.at c.index-text-at.result (omega arith) c.index-text-at.is ink none

pub returns-then-not-is_blank-clause-value : goal.returns-then-not-is_blank-clause-value
returns-then-not-is_blank-clause-value c =
    let ink : is_blank c.index-text-at.result ≡ false = search rules in
    let found : first_token (drop c.blanks.at c.args.text.now) ≡ Some (c.in-Some.token, c.in-Some.length) =
    ap first_token (sym (passed_on c.args.text.now c.blanks.at)) ∙ (sym c.in_ok-token.ensures.value ∙ c.in-Some.is) in
    c.blanks.invariant.reads
    ∙ token_next c.args.text.now c.blanks.at c.index-text-at.result (omega arith) c.index-text-at.is c.in-Some.token c.in-Some.length ink found
