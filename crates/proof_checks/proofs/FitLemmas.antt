-- The parts of a rule fit its goal.
use Rattle.std.proofs.lemmas.Bool.{and_parts}
use Rattle.std.proofs.Common.{◌≡◌, ℕ, Bool, true, false, cond, ◌&&◌, List, Ok, refl, ◌∙◌, subst}
use Rattle.nj_formula.specs.declared.argument.Argument.{Argument}
use Rattle.nj_formula.specs.declared.argument.Argument.TheVariants.{Free}
use Rattle.nj_formula.specs.declared.formula.Formula.{Formula, out-Formula, map-Formula, fold_out-Formula}
use Rattle.nj_formula.specs.declared.formula.Formula.TheOpen.{Formula-F}
use Rattle.nj_formula.specs.Closed.{is_closed}
use Rattle.nj_formula.specs.FormulaInstance.{formula_instance}
use Rattle.nj_formula.specs.Meaning.{layer_meaning, meaning}
use Rattle.nj_formula.specs.Statement.{Statement}
use Rattle.nj_formula.proofs.KnownInstance.{instance_says}
use Rattle.nj_formula.proofs.KnownMeaning.{meaning-False, meaning-Not, meaning-And, meaning-Or, meaning-Implies}
use Rattle.proof_terms.specs.declared.term.Term.{Term}
use Rattle.proof_terms.specs.declared.term.Term.TheOpen.{Term-F}
use Rattle.nj_kernel.specs.declared.rule.Rule.{Rule}
use Rattle.nj_kernel.specs.declared.rule.Rule.TheVariants as R
use Rattle.proof_checks.specs.declared.step.Step.{Step}
use Rattle.proof_checks.specs.declared.step.Step.TheVariants.{One}
use Rattle.proof_checks.specs.declared.step.Unary.TheVariants.{AllE, ExI}
use Rattle.proof_checks.specs.Parts.{part}
use Rattle.proof_checks.specs.Fits.{Fits, FitsOne, FitsTwo, FitsThree}
use Rattle.proof_checks.specs.Rows.{Planned, misfit, conj_i, disj_i1, disj_i2, imp_i, not_i, all_i, ex_i, not_e, all_e, ex_e, step_of}
use Rattle.proof_checks.specs.Statements.{is_same}
use Rattle.proof_checks.proofs.KnownStatements.{same_is}
use Rattle.proof_checks.proofs.KnownFound.{same_step}

-- what a formula of this outermost layer says
abbrev says : Formula-F Formula → Statement
says l = layer_meaning (map-Formula Formula Statement meaning l)

out_says : (f : Formula) → meaning f ≡ says (out-Formula f)
out_says f = fold_out-Formula Statement layer_meaning f

-- a planned step that fits
fits_planned : (s t : Step) (g : Statement) → Fits s g → ◌≡◌ {A = Planned} (Ok s) (Ok t) → Fits t g
fits_planned s t g fits e = subst (λ x. Fits x g) (same_step e) fits

-- a step that is planned where a test says yes
chosen : (b : Bool) (row step : Step) (r : Rule) → ◌≡◌ {A = Planned} (cond b (Ok row) (misfit r)) (Ok step) → (b ≡ true) × (row ≡ step)
chosen true row step r e = (refl, same_step e)
chosen false row step r e = cc

module _ (g : Statement) (step : Step) where
  conj_i_fits : (t u : Term) (l : Formula-F Formula) → g ≡ says l → conj_i t u l ≡ Ok step → Fits step g
  unfolding Fits FitsOne FitsTwo FitsThree
  conj_i_fits t u (Formula-F.And a b) is e = fits_planned _ step g is e
  conj_i_fits t u _ is e = cc

  disj_i1_fits : (t : Term) (l : Formula-F Formula) → g ≡ says l → disj_i1 t l ≡ Ok step → Fits step g
  unfolding Fits FitsOne FitsTwo FitsThree
  disj_i1_fits t (Formula-F.Or a b) is e = fits_planned _ step g is e
  disj_i1_fits t _ is e = cc

  disj_i2_fits : (t : Term) (l : Formula-F Formula) → g ≡ says l → disj_i2 t l ≡ Ok step → Fits step g
  unfolding Fits FitsOne FitsTwo FitsThree
  disj_i2_fits t (Formula-F.Or a b) is e = fits_planned _ step g is e
  disj_i2_fits t _ is e = cc

  imp_i_fits : (x : List ℕ) (t : Term) (l : Formula-F Formula) → g ≡ says l → imp_i x t l ≡ Ok step → Fits step g
  unfolding Fits FitsOne FitsTwo FitsThree
  imp_i_fits x t (Formula-F.Implies a b) is e = fits_planned _ step g (refl, is) e
  imp_i_fits x t _ is e = cc

  not_i_fits : (x : List ℕ) (t : Term) (l : Formula-F Formula) → g ≡ says l → not_i x t l ≡ Ok step → Fits step g
  unfolding Fits FitsOne FitsTwo FitsThree
  not_i_fits x t (Formula-F.Not a) is e = fits_planned _ step g (refl, meaning-False, is) e
  not_i_fits x t _ is e = cc

  all_i_fits : (x : List ℕ) (t : Term) (l : Formula-F Formula) → g ≡ says l → all_i x t l ≡ Ok step → Fits step g
  unfolding Fits FitsOne FitsTwo FitsThree
  all_i_fits x t (Formula-F.All y p) is e = fits_planned _ step g (meaning p, instance_says (Free x) p, is) e
  all_i_fits x t _ is e = cc

  ex_i_fits : (s : Argument) (t : Term) (l : Formula-F Formula) → g ≡ says l → ex_i s t l ≡ Ok step → Fits step g
  unfolding Fits FitsOne FitsTwo FitsThree
  ex_i_fits s t (Formula-F.Exists y p) is e =
      let w = chosen (is_closed s) (One (ExI s) (part t (formula_instance s p))) step R.ExI e in
      subst (λ x. Fits x g) w.1 (meaning p, instance_says s p, is, w.0)
  ex_i_fits s t _ is e = cc

  not_e_fits : (a : Formula) (t u : Term) (l : Formula-F Formula) → g ≡ says l → not_e a t u l ≡ Ok step → Fits step g
  unfolding Fits FitsOne FitsTwo FitsThree
  not_e_fits a t u Formula-F.False is e = fits_planned _ step g (meaning-Not a, is) e
  not_e_fits a t u _ is e = cc

all_e_fits : (step : Step) (quoted : Formula) (s : Argument) (t : Term) (goal : Formula) (l : Formula-F Formula) → meaning quoted ≡ says l
    → all_e quoted s t goal l ≡ Ok step → Fits step (meaning goal)
unfolding Fits FitsOne FitsTwo FitsThree
all_e_fits step quoted s t goal (Formula-F.All y p) is e =
    let w = chosen (is_closed s && is_same (meaning goal) (meaning (formula_instance s p))) (One (AllE s) (part t quoted)) step R.AllE e in
    let tests = and_parts (is_closed s) (is_same (meaning goal) (meaning (formula_instance s p))) w.0 in
    subst (λ x. Fits x (meaning goal)) w.1 (meaning p, is, same_is _ _ tests.1 ∙ instance_says s p, tests.0)
all_e_fits step quoted s t goal _ is e = cc

ex_e_fits : (step : Step) (quoted : Formula) (x h : List ℕ) (t u : Term) (goal : Formula) (l : Formula-F Formula) → meaning quoted ≡ says l
    → ex_e quoted x h t u goal l ≡ Ok step → Fits step (meaning goal)
unfolding Fits FitsOne FitsTwo FitsThree
ex_e_fits step quoted x h t u goal (Formula-F.Exists y p) is e =
    fits_planned _ step (meaning goal) (meaning p, is, instance_says (Free x) p, refl) e
ex_e_fits step quoted x h t u goal _ is e = cc

pub step_fits : (l : Term-F Term) (goal : Formula) (step : Step) → step_of l goal ≡ Ok step → Fits step (meaning goal)
unfolding step_of Fits FitsOne FitsTwo FitsThree
step_fits (Term-F.Fact c) goal step e = fits_planned _ step (meaning goal) tt e
step_fits (Term-F.ConjI t u) goal step e = conj_i_fits (meaning goal) step t u (out-Formula goal) (out_says goal) e
step_fits (Term-F.ConjE1 b t) goal step e = fits_planned _ step (meaning goal) (meaning b, meaning-And goal b) e
step_fits (Term-F.ConjE2 a t) goal step e = fits_planned _ step (meaning goal) (meaning a, meaning-And a goal) e
step_fits (Term-F.DisjI1 t) goal step e = disj_i1_fits (meaning goal) step t (out-Formula goal) (out_says goal) e
step_fits (Term-F.DisjI2 t) goal step e = disj_i2_fits (meaning goal) step t (out-Formula goal) (out_says goal) e
step_fits (Term-F.DisjE a b t x u y v) goal step e = fits_planned _ step (meaning goal) (meaning-Or a b, refl, refl) e
step_fits (Term-F.ImpI x t) goal step e = imp_i_fits (meaning goal) step x t (out-Formula goal) (out_says goal) e
step_fits (Term-F.ImpE a t u) goal step e = fits_planned _ step (meaning goal) (meaning-Implies a goal) e
step_fits (Term-F.NotI x t) goal step e = not_i_fits (meaning goal) step x t (out-Formula goal) (out_says goal) e
step_fits (Term-F.NotE a t u) goal step e = not_e_fits (meaning goal) step a t u (out-Formula goal) (out_says goal) e
step_fits (Term-F.FalseE t) goal step e = fits_planned _ step (meaning goal) meaning-False e
step_fits (Term-F.AllI x t) goal step e = all_i_fits (meaning goal) step x t (out-Formula goal) (out_says goal) e
step_fits (Term-F.AllE quoted s t) goal step e = all_e_fits step quoted s t goal (out-Formula quoted) (out_says quoted) e
step_fits (Term-F.ExI s t) goal step e = ex_i_fits (meaning goal) step s t (out-Formula goal) (out_says goal) e
step_fits (Term-F.ExE quoted x h t u) goal step e = ex_e_fits step quoted x h t u goal (out-Formula quoted) (out_says quoted) e
