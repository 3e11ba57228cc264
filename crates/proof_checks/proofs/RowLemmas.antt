-- What the rows of the quantifiers say, where the quantifier is there.
use Rattle.std.proofs.Common.{◌≡◌, ℕ, Bool, false, cond, ◌&&◌, IsTrue, List, Ok, Err, sym, ◌∙◌, ap, subst}
use Rattle.nj_formula.specs.declared.argument.Argument.{Argument}
use Rattle.nj_formula.specs.declared.argument.Argument.TheVariants.{Free}
use Rattle.nj_formula.specs.declared.formula.Formula.{Formula, out-Formula, out-roll-Formula}
use Rattle.nj_formula.specs.declared.formula.Formula.TheOpen.{Formula-F}
use Rattle.nj_formula.specs.declared.formula.Formula.TheVariants.{All, Exists, rolls-All, rolls-Exists}
use Rattle.nj_formula.specs.Closed.{is_closed}
use Rattle.nj_formula.specs.FormulaInstance.{formula_instance}
use Rattle.nj_formula.specs.Meaning.{meaning}
use Rattle.nj_kernel.specs.declared.rule.Rule.TheVariants as R
use Rattle.proof_terms.specs.declared.fault.TermFault.TheVariants.{RuleDoesNotFit}
use Rattle.proof_terms.specs.declared.term.Term.{Term}
use Rattle.proof_checks.specs.declared.halt.Halt.{Halt}
use Rattle.proof_checks.specs.declared.halt.Halt.TheVariants.{Wrong}
use Rattle.proof_checks.specs.declared.step.Step.{Step}
use Rattle.proof_checks.specs.declared.step.Step.TheVariants.{One, Two}
use Rattle.proof_checks.specs.declared.step.Unary.TheVariants as U
use Rattle.proof_checks.specs.declared.step.Binary.TheVariants as B
use Rattle.proof_checks.specs.Answers.{Plans}
use Rattle.proof_checks.specs.Parts.{part, under}
use Rattle.proof_checks.specs.Rows.{misfit, all_i, ex_i, all_e, ex_e}
use Rattle.proof_checks.specs.Statements.{is_same}

out-All : (f : Formula) (y : List ℕ) (body : Formula) → f ≡ All y body → out-Formula f ≡ Formula-F.All y body
out-All f y body is = ap out-Formula (is ∙ sym (rolls-All y body)) ∙ out-roll-Formula (Formula-F.All y body)

out-Exists : (f : Formula) (y : List ℕ) (body : Formula) → f ≡ Exists y body → out-Formula f ≡ Formula-F.Exists y body
out-Exists f y body is = ap out-Formula (is ∙ sym (rolls-Exists y body)) ∙ out-roll-Formula (Formula-F.Exists y body)

pub all_i_row : (x : List ℕ) (t : Term) (goal : Formula) (y : List ℕ) (body : Formula) (step : Step) → goal ≡ All y body
    → step ≡ One (U.AllI x) (part t (formula_instance (Free x) body)) → all_i x t (out-Formula goal) ≡ Ok step
all_i_row x t goal y body step is step_is =
    let row : all_i x t (out-Formula goal) ≡ Ok (One (U.AllI x) (part t (formula_instance (Free x) body))) = ap (all_i x t) (out-All goal y body is) in
    row ∙ cc

pub ex_i_row : (s : Argument) (t : Term) (goal : Formula) (y : List ℕ) (body : Formula) (step : Step) → goal ≡ Exists y body
    → IsTrue (is_closed s) → step ≡ One (U.ExI s) (part t (formula_instance s body)) → ex_i s t (out-Formula goal) ≡ Ok step
ex_i_row s t goal y body step is closed step_is =
    let row : ex_i s t (out-Formula goal) ≡ Ok (One (U.ExI s) (part t (formula_instance s body))) =
    ap (ex_i s t) (out-Exists goal y body is) ∙ ap (λ b. cond b (Ok (One (U.ExI s) (part t (formula_instance s body)))) (misfit R.ExI)) closed in
    row ∙ cc

module _ (quoted : Formula) (s : Argument) (t : Term) (goal : Formula) (y : List ℕ) (body : Formula) (is : quoted ≡ All y body) (closed : IsTrue (is_closed s)) where
  all_e_row : (b : Bool) → b ≡ is_same (meaning goal) (meaning (formula_instance s body)) → all_e quoted s t goal (out-Formula quoted) ≡ cond b (Ok (One (U.AllE s) (part t quoted))) (misfit R.AllE)
  all_e_row b same =
      ap (all_e quoted s t goal) (out-All quoted y body is)
      ∙ (ap (λ c. cond (c && is_same (meaning goal) (meaning (formula_instance s body))) (Ok (One (U.AllE s) (part t quoted))) (misfit R.AllE)) closed
      ∙ ap (λ c. cond c (Ok (One (U.AllE s) (part t quoted))) (misfit R.AllE)) (sym same))

  pub all_e_refused : (b : Bool) (h : Halt) → b ≡ is_same (meaning goal) (meaning (formula_instance s body)) → b ≡ false → h ≡ Wrong (RuleDoesNotFit R.AllE)
      → Plans (Err h) (all_e quoted s t goal (out-Formula quoted))
  all_e_refused b h same other halt_is = subst (λ k. Plans (Err k) (all_e quoted s t goal (out-Formula quoted))) (sym halt_is) (all_e_row false (sym other ∙ same))

pub ex_e_row : (quoted : Formula) (x h : List ℕ) (t u : Term) (goal : Formula) (y : List ℕ) (body : Formula) (step : Step) → quoted ≡ Exists y body
    → step ≡ Two (B.ExE x) (part t quoted) (under h (formula_instance (Free x) body) u goal)
    → ex_e quoted x h t u goal (out-Formula quoted) ≡ Ok step
ex_e_row quoted x h t u goal y body step is step_is =
    let row : ex_e quoted x h t u goal (out-Formula quoted) ≡ Ok (Two (B.ExE x) (part t quoted) (under h (formula_instance (Free x) body) u goal)) =
    ap (ex_e quoted x h t u goal) (out-Exists quoted y body is) in
    row ∙ cc
