use Rattle.std.proofs.Common.{Some, None, ap, ◌∙◌}
use Rattle.nj_syntax.specs.declared.token.Token.TheVariants.{Name}
use Rattle.nj_syntax.specs.Lexis.{name_or_sign}
use Rattle.nj_syntax.proofs.LexisLemmas.{front_is, front_parts}
use Rattle.nj_syntax.proofs.lex.Lexer.first_token.Goals as goal

pub name_of-requires : goal.name_of-requires
name_of-requires c = front_parts c.args.text.now c.in-Some.length c.in-Some.ensures

pub returns-in_ok-name-in-Some-clause-value : goal.returns-in_ok-name-in-Some-clause-value
returns-in_ok-name-in-Some-clause-value c =
    ap (λ w. Some (Name w, c.in-Some.length)) c.in_ok-name-in-Some.ensures
    ∙ ap (name_or_sign c.args.text.now) (front_is c.args.text.now (Some c.in-Some.length) c.in-Some.ensures)

pub returns-in-None-clause-value : goal.returns-in-None-clause-value
returns-in-None-clause-value c =
    c.front_sign.ensures.value ∙ ap (name_or_sign c.args.text.now) (front_is c.args.text.now None c.in-None.ensures)
