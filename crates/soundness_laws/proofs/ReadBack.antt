-- The text of a readable formula is plain, and is read as a formula that says the same.
use Rattle.std.proofs.Common.{◌≡◌, Result, Ok, Err, sym, refl, subst}
use Rattle.std.specs.List.{AllByRecursion}
use Rattle.nj_formula.specs.declared.formula.Formula.{Formula}
use Rattle.nj_formula.specs.Meaning.{meaning}
use Rattle.nj_syntax.specs.declared.fault.FormulaFault.{FormulaFault}
use Rattle.nj_syntax.specs.Answer.{formula_of}
use Rattle.nj_syntax.specs.Answers.{Answers, IsFormula, SaysWhole}
use Rattle.nj_syntax.proofs.KnownAnswers.{formula_answers, formula_tells}
use Rattle.nj_syntax.specs.Readable.{IsReadable, IsReadAgain}
use Rattle.nj_syntax.proofs.KnownReadable.{print_read_again}
use Rattle.nj_syntax.specs.Printed.{formula_text}
use Rattle.nj_syntax.proofs.KnownTexts.{printed}
use Rattle.soundness_laws.specs.Lexemes.{IsPlain}
use Rattle.soundness_laws.proofs.PlainTexts.{tokens_plain}

pub record IsReadBack (a : Formula) : Type 0 where
  pub back : Formula
  pub read : formula_of (formula_text a) ≡ Ok back
  pub says : meaning a ≡ meaning back

pub read_back : (a : Formula) → IsReadable a → IsReadBack a
read_back a readable = go (formula_of (formula_text a)) refl (print_read_again a (formula_text a) (formula_of (formula_text a)) readable (printed a) (formula_answers (formula_text a)))
  where
    go : (o : Result Formula FormulaFault) → formula_of (formula_text a) ≡ o → IsReadAgain a o → IsReadBack a
    go (Ok b) e again = record { back = b; read = e; says = sym again }
    go (Err (FormulaFault.At pos kind)) e again = absurd again
    go (Err FormulaFault.TooDeep) e again = absurd again
    go (Err FormulaFault.NoMemory) e again = absurd (formula_tells (formula_text a) e)

pub plain_text : (a : Formula) → IsReadable a → AllByRecursion IsPlain (formula_text a)
plain_text a readable =
    let back = read_back a readable in
    let whole : SaysWhole IsFormula (formula_text a) back.back = subst (Answers IsFormula (formula_text a)) back.read (formula_answers (formula_text a)) in
    tokens_plain whole.cut refl
