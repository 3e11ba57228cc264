-- The texts of readable formulas and subgoals are plain.
use Rattle.std.proofs.Common.{◌≡◌, ℕ, List, [], ◌∷◌, ◌++◌, codes, Result, Ok, Err, sym, refl, ap}
use Rattle.std.proofs.Common.{◌∙◌, subst, lit≤}
use Rattle.std.specs.List.{AllByRecursion}
use Rattle.nj_formula.specs.declared.formula.Formula.{Formula, out-Formula}
use Rattle.nj_formula.specs.declared.formula.Formula.TheOpen.{Formula-F}
use Rattle.nj_formula.specs.declared.formula.Formula.TheVariants as F
use Rattle.nj_formula.specs.declared.formula.Formula.TheVariants.{rolls-All}
use Rattle.nj_formula.specs.Meaning.{meaning}
use Rattle.nj_formula.proofs.KnownFormulas.{is_rolled}
use Rattle.nj_syntax.specs.declared.fault.FormulaFault.{FormulaFault}
use Rattle.nj_syntax.specs.declared.operator.Quantifier.{Quantifier}
use Rattle.nj_syntax.specs.Answer.{formula_of}
use Rattle.nj_syntax.specs.Answers.{Answers, IsFormula, SaysWhole}
use Rattle.nj_syntax.specs.Grammar.{word}
use Rattle.nj_syntax.proofs.KnownAnswers.{formula_answers, formula_tells}
use Rattle.nj_syntax.specs.Prints.{quantifier}
use Rattle.nj_syntax.specs.Readable.{IsReadable, IsReadAgain}
use Rattle.nj_syntax.proofs.KnownPrints.{some_print, some_primed}
use Rattle.nj_syntax.proofs.KnownReadable.{print_read_again}
use Rattle.nj_syntax.proofs.KnownParts.{and_readable, implies_readable, not_readable, false_readable}
use Rattle.nj_syntax.specs.Printed.{primed, formula_text}
use Rattle.nj_syntax.proofs.KnownPrimed.{primed_is}
use Rattle.nj_syntax.proofs.KnownTexts.{text_is, printed}
use Rattle.proof_state.specs.declared.subgoal.Subgoal.{Subgoal}
use Rattle.proof_state.specs.declared.subgoal.Subgoal.TheVariants.{Show, AssumeShow, FixShow}
use Rattle.proof_state.specs.Subgoals.{introduced}
use Rattle.isar_rules.specs.Described.{fix_text, subgoal_text}
use Rattle.editor_laws.proofs.PlainTexts.{Plain, joined, after, parted}
use Rattle.editor_laws.proofs.PlainTokens.{tokens_plain}

-- the print of a readable formula is read again, so it is tokens to its end
pub formula_plain : (a : Formula) → IsReadable a → Plain (formula_text a)
formula_plain a readable = go (formula_of (formula_text a)) (formula_answers (formula_text a)) refl
    (print_read_again a (formula_text a) (formula_of (formula_text a)) readable (printed a)
    (formula_answers (formula_text a)))
  where
    go : (o : Result Formula FormulaFault) → Answers IsFormula (formula_text a) o
        → formula_of (formula_text a) ≡ o → IsReadAgain a o → Plain (formula_text a)
    go (Ok b) answers e again =
        let whole : SaysWhole IsFormula (formula_text a) b = answers in tokens_plain whole.cut refl
    go (Err (FormulaFault.At pos kind)) answers e again = absurd again
    go (Err FormulaFault.TooDeep) answers e again = absurd again
    go (Err FormulaFault.NoMemory) answers e again = absurd (formula_tells (formula_text a) e)

-- a name to fix and the body are parts of the quantified formula's text
pub fix_plain : (x : List ℕ) (p : Formula) → IsReadable (F.All x p)
    → Plain (fix_text (primed [] x (meaning p)) p)
fix_plain x p readable =
    let prime = some_primed [] x (meaning p) in
    let y : List ℕ = prime.0 in
    let body = some_print (y ∷ []) p in
    let is : word Quantifier.All
    ++ (codes " " ++ (y ++ (codes ". " ++ body.0))) ≡ formula_text (F.All x p) =
    text_is (quantifier Quantifier.All (lit≤ tt) prime.1 body.1) in
    let whole : Plain (word Quantifier.All ++ (codes " " ++ (y ++ (codes ". " ++ body.0)))) =
    subst Plain (sym is) (formula_plain (F.All x p) readable) in
    let named = parted y (codes ". " ++ body.0)
    (parted (codes " ") _ (parted (word Quantifier.All) _ whole).1).1 in
    let inside : Plain body.0 = (parted (codes ". ") body.0 named.1).1 in
    let text : Plain (fix_text y p) =
    after (codes "fix ") refl
    (joined named.0 (after (codes " show ") refl (subst Plain (text_is body.1) inside))) in
    subst (λ z. Plain (fix_text z p)) (primed_is [] x (meaning p) y prime.1) text

-- of formulas that are read again
abbrev pub IsSaid : Subgoal → Type 0
IsSaid (Show c) = IsReadable c
IsSaid (AssumeShow a c) = IsReadable a × IsReadable c
IsSaid (FixShow x p) = IsReadable (F.All x p)

pub subgoal_plain : (s : Subgoal) → IsSaid s → Plain (subgoal_text s)
subgoal_plain (Show c) said = formula_plain c said
subgoal_plain (AssumeShow a c) said =
    after (codes "assume ") refl
    (joined (formula_plain a said.0) (after (codes " show ") refl (formula_plain c said.1)))
subgoal_plain (FixShow x p) said = fix_plain x p said

-- the subgoals of a readable goal
pub introduced_said : (goal : Formula) (layer : Formula-F Formula) → out-Formula goal ≡ layer
    → IsReadable goal → AllByRecursion IsSaid (introduced goal layer)
introduced_said goal (Formula-F.Implies a b) out readable =
    (implies_readable goal a b out readable, tt)
introduced_said goal (Formula-F.Not a) out readable =
    ((not_readable goal a out readable, false_readable), tt)
introduced_said goal (Formula-F.And a b) out readable =
    let parts = and_readable goal a b out readable in (parts.0, (parts.1, tt))
introduced_said goal (Formula-F.All x p) out readable =
    (subst IsReadable (is_rolled goal (Formula-F.All x p) out ∙ rolls-All x p) readable, tt)
introduced_said goal Formula-F.False out readable = (readable, tt)
introduced_said goal (Formula-F.Atom p args) out readable = (readable, tt)
introduced_said goal (Formula-F.Or a b) out readable = (readable, tt)
introduced_said goal (Formula-F.Exists x p) out readable = (readable, tt)
