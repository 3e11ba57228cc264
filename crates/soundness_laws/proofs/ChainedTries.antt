-- What comes of tries, one after the other.
use Rattle.std.proofs.Common.{◌≡◌, ℕ, List, Ok, Err, Result, refl, subst}
use Rattle.nj_formula.specs.declared.formula.Formula.{Formula}
use Rattle.nj_syntax.specs.Answer.{formula_of}
use Rattle.nj_syntax.specs.Answers.{Answers, IsFormula}
use Rattle.nj_syntax.specs.declared.fault.FormulaFault.{FormulaFault}
use Rattle.nj_syntax.proofs.KnownAnswers.{formula_answers}
use Rattle.nj_syntax.specs.Readable.{IsReadable}
use Rattle.nj_syntax.proofs.KnownReadable.{parsed_readable}
use Rattle.isar_rules.specs.Errors.{formula_or, formula_in}
use Rattle.isar_rules.proofs.KnownTried.{IfTried}

-- a formula that was read is readable
pub in_readable : (content : List ℕ) → IfTried IsReadable (formula_in content)
in_readable content = go (formula_of content) refl
  where
    go : (r : Result Formula FormulaFault) → formula_of content ≡ r → IfTried IsReadable (formula_or r)
    go (Ok f) e = parsed_readable content f (subst (Answers IsFormula content) e (formula_answers content))
    go (Err fault) e = tt
