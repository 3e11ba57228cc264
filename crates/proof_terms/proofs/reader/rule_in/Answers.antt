use Rattle.std.proofs.Common.{◌∷◌, rules, ap, sym, ◌∙◌}
use Rattle.outer_syntax.specs.Tokens.{text_of}
use Rattle.proof_terms.specs.Marks.{mark}
use Rattle.proof_terms.specs.Reading.{of_name, read_rule_name}
use Rattle.proof_terms.specs.RuleNames.{rule_of}
use Rattle.proof_terms.proofs.SpelledLemmas.{ident_names, other_names}
use Rattle.proof_terms.proofs.reader.rule_in.Goals as goal

pub returns-in-Ident : goal.returns-in-Ident
returns-in-Ident c more =
    let word = text_of c.args.source.now c.args.token in
    ap (λ k. read_rule_name (mark k word c.args.token.range ∷ more)) c.in-Ident.is
    ∙ (ident_names word c.args.token.range more ∙ ap (λ r. of_name r more) (sym (c.rule_named.ensures ∙ ap rule_of c.scalars.ensures)))

pub returns-in_default : goal.returns-in_default
returns-in_default c more = other_names c.args.token.kind (text_of c.args.source.now c.args.token) c.args.token.range more (search rules)
