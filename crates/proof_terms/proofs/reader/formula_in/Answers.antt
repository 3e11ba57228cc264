use Rattle.std.proofs.Common.{Ok, Err, ap, sym, subst, ◌∙◌}
use Rattle.nj_syntax.specs.Answers.{Answers, IsFormula}
use Rattle.nj_syntax.specs.Answer.{formula_of}
use Rattle.nj_syntax.proofs.KnownAnswers.{formula_is}
use Rattle.proof_terms.specs.Reading.{Quotes}
use Rattle.proof_terms.proofs.QuotedLemmas.{found, told_fault}
use Rattle.proof_terms.proofs.reader.formula_in.Goals as goal

pub returns-in_ok-new-in-Ok : goal.returns-in_ok-new-in-Ok
returns-in_ok-new-in-Ok c =
    let h = subst (λ r. Answers IsFormula c.args.text.now r) c.in-Ok.is c.parse.ensures in
    found _ _ (formula_is _ _ h) ∙ ap Ok (sym c.in_ok-new-in-Ok.ensures)

pub returns-in-Err : goal.returns-in-Err
returns-in-Err c =
    let h = subst (λ r. Answers IsFormula c.args.text.now r) c.in-Err.is c.parse.ensures in
    subst (λ e. Quotes (formula_of c.args.text.now) (Err e)) (sym c.quoted.ensures) (told_fault _ c.in-Err.fault (formula_is _ _ h))
