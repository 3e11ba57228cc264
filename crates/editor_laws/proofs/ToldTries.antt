-- What comes of a try has something, or else the error's text is plain.
use Rattle.std.proofs.Common.{◌≡◌, ℕ, List, codes, Result, Ok, Err, refl, subst}
use Rattle.nj_formula.specs.declared.formula.Formula.{Formula}
use Rattle.nj_syntax.specs.Answer.{formula_of}
use Rattle.nj_syntax.specs.Answers.{Answers, IsFormula}
use Rattle.nj_syntax.specs.declared.fault.FormulaFault.{FormulaFault}
use Rattle.nj_syntax.proofs.KnownAnswers.{formula_answers}
use Rattle.nj_syntax.specs.Readable.{IsReadable}
use Rattle.nj_syntax.proofs.KnownReadable.{parsed_readable}
use Rattle.isar_rules.specs.Errors.{Tried, and_then, formula_error, formula_or, formula_in}
use Rattle.editor_laws.proofs.PlainTexts.{Plain, spelled, after, decimal_plain}

abbrev pub IfTold : {A : Type 0} → (A → Type 0) → Tried A → Type 0
IfTold P (Ok a) = P a
IfTold P (Err text) = Plain text

-- of one behind the other
pub then_told : {A B : Type 0} (P : A → Type 0) (Q : B → Type 0) (t : Tried A) (next : A → Tried B)
    → IfTold P t → ((a : A) → P a → IfTold Q (next a)) → IfTold Q (and_then t next)
then_told P Q (Ok a) next p each = each a p
then_told P Q (Err text) next p each = p

pub readable_of : (content : List ℕ) (f : Formula) → formula_of content ≡ Ok f → IsReadable f
readable_of content f e =
    parsed_readable content f (subst (Answers IsFormula content) e (formula_answers content))

fault_plain : (fault : FormulaFault) → Plain (formula_error fault)
fault_plain (FormulaFault.At at kind) = after (codes "bad formula at ") refl (decimal_plain at)
fault_plain FormulaFault.TooDeep = spelled refl
fault_plain FormulaFault.NoMemory = spelled refl

-- a formula that was read is read again from its text
pub formula_told : (content : List ℕ) → IfTold IsReadable (formula_in content)
formula_told content = go (formula_of content) refl
  where
    go : (r : Result Formula FormulaFault) → formula_of content ≡ r
        → IfTold IsReadable (formula_or r)
    go (Ok f) e = readable_of content f e
    go (Err fault) e = fault_plain fault
