-- Each rule for a quantifier that is found is one of the rules.
use Rattle.std.proofs.Common.{◌≡◌, ℕ, suc, ◌&&◌, List, ◌∷◌, ◌++◌, Ok, sym, ◌∙◌, subst}
use Rattle.std.proofs.lemmas.Bool.{and_parts}
use Rattle.nj_formula.specs.declared.argument.Argument.{Argument}
use Rattle.nj_formula.specs.declared.argument.Argument.TheVariants.{Free}
use Rattle.nj_formula.specs.declared.formula.Formula.{Formula, roll-Formula}
use Rattle.nj_formula.specs.declared.formula.Formula.TheOpen.{Formula-F}
use Rattle.nj_formula.specs.declared.formula.Formula.TheVariants as F
use Rattle.nj_formula.specs.Closed.{is_closed}
use Rattle.nj_formula.specs.FormulaInstance.{formula_instance}
use Rattle.nj_formula.specs.Meaning.{meaning}
use Rattle.nj_formula.specs.Statement.{Statement}
use Rattle.nj_kernel.specs.Sets.{members, IsFreshIn}
use Rattle.nj_kernel.specs.declared.rule.Rule.TheVariants as R
use Rattle.theory_ctx.specs.Locals.{Scoped}
use Rattle.proof_terms.specs.declared.fault.TermFault.TheVariants.{RuleDoesNotFit}
use Rattle.proof_terms.specs.declared.term.Term.{Term}
use Rattle.proof_terms.specs.declared.term.Term.TheVariants as T
use Rattle.proof_checks.specs.declared.step.Step.TheVariants.{One}
use Rattle.proof_checks.specs.declared.step.Unary.TheVariants as U
use Rattle.proof_checks.specs.declared.step.Binary.TheVariants as B
use Rattle.proof_checks.specs.Checks.{by_one, by_two, of_step, checked_within}
use Rattle.proof_checks.specs.Parts.{part, under}
use Rattle.proof_checks.specs.Rows as Rows
use Rattle.proof_checks.specs.Statements.{is_same, without}
use Rattle.proof_checks.proofs.KnownStatements.{same_is, fresh_among}
use Rattle.soundness_laws.specs.Proofs.{TermProves, assuming, all_i, all_e, ex_i, ex_e}
use Rattle.proof_checks.proofs.KnownFound.{same_found, fresh_found}
use Rattle.soundness_laws.proofs.Steps.{chosen, one_back, two_back}
use Rattle.soundness_laws.proofs.Rules.{Sound, after, so}

module _ (n : ℕ) (scope : Scoped) (sound : Sound n) where
  pub all_i_sound : (x : List ℕ) (t : Term) (goal : Formula) (g : Formula-F Formula)
      (s : List Statement) → goal ≡ roll-Formula g
      → after n scope sound goal (Rows.all_i x t g) ≡ Ok s
      → TermProves (suc n) scope (T.AllI x t) goal s
  unfolding by_one
  all_i_sound x t goal (Formula-F.All y p) s is e =
      let i : goal ≡ F.All y p = is ∙ F.rolls-All y p in
      let w = one_back (checked_within n) scope goal (U.AllI x)
      (part t (formula_instance (Free x) p)) s e in
      let f = fresh_found x (meaning goal ∷ w.0) w.0 s w.2 in
      so n scope sound i f.1 (all_i x y p (sound t (formula_instance (Free x) p) scope w.0 w.1)
      (subst (λ k. IsFreshIn x (members (meaning k ∷ w.0))) i
      (fresh_among x (meaning goal ∷ w.0) f.0)))
  all_i_sound x t goal _ s is e = cc

  pub all_e_sound : (quoted : Formula) (term : Argument) (t : Term) (goal : Formula)
      (g : Formula-F Formula) (s : List Statement)
      → quoted ≡ roll-Formula g → after n scope sound goal (Rows.all_e quoted term t goal g)
      ≡ Ok s → TermProves (suc n) scope (T.AllE quoted term t) goal s
  unfolding by_one
  all_e_sound quoted term t goal (Formula-F.All y p) s is e =
      let i : quoted ≡ F.All y p = is ∙ F.rolls-All y p in
      let same = is_same (meaning goal) (meaning (formula_instance term p)) in
      let c = chosen (is_closed term && same) (One (U.AllE term) (part t quoted))
      (RuleDoesNotFit R.AllE) (of_step (checked_within n) scope goal) s e in
      let both = and_parts (is_closed term) same c.0 in
      let w = one_back (checked_within n) scope goal (U.AllE term) (part t quoted) s c.1 in
      let d = subst (λ k. TermProves n scope t k w.0) i (sound t quoted scope w.0 w.1) in
      subst (λ k. TermProves (suc n) scope (T.AllE quoted term t) goal k) (same_found w.2)
      (subst (λ k. TermProves (suc n) scope (T.AllE k term t) goal w.0) (sym i)
      (all_e y p term both.0 (same_is (meaning goal)
      (meaning (formula_instance term p)) both.1) d))
  all_e_sound quoted term t goal _ s is e = cc

  pub ex_i_sound : (term : Argument) (t : Term) (goal : Formula) (g : Formula-F Formula)
      (s : List Statement) → goal ≡ roll-Formula g
      → after n scope sound goal (Rows.ex_i term t g) ≡ Ok s
      → TermProves (suc n) scope (T.ExI term t) goal s
  unfolding by_one
  ex_i_sound term t goal (Formula-F.Exists y p) s is e =
      let c = chosen (is_closed term) (One (U.ExI term) (part t (formula_instance term p)))
      (RuleDoesNotFit R.ExI) (of_step (checked_within n) scope goal) s e in
      let w = one_back (checked_within n) scope goal (U.ExI term)
      (part t (formula_instance term p)) s c.1 in
      so n scope sound (is ∙ F.rolls-Exists y p) (same_found w.2)
      (ex_i y p term c.0 (sound t (formula_instance term p) scope w.0 w.1))
  ex_i_sound term t goal _ s is e = cc

  pub ex_e_sound : (quoted : Formula) (x h : List ℕ) (t u : Term) (goal : Formula)
      (g : Formula-F Formula) (s : List Statement)
      → quoted ≡ roll-Formula g → after n scope sound goal (Rows.ex_e quoted x h t u goal g)
      ≡ Ok s → TermProves (suc n) scope (T.ExE quoted x h t u) goal s
  unfolding by_two
  ex_e_sound quoted x h t u goal (Formula-F.Exists y p) s is e =
      let i : quoted ≡ F.Exists y p = is ∙ F.rolls-Exists y p in
      let body = formula_instance (Free x) p in
      let w = two_back (checked_within n) scope goal (B.ExE x) (part t quoted)
      (under h body u goal) s e in
      let left = without (meaning body) w.1 in
      let f = fresh_found x (meaning quoted ∷ meaning goal ∷ left) (w.0 ++ left) s w.4 in
      let d = subst (λ k. TermProves n scope t k w.0) i (sound t quoted scope w.0 w.2) in
      subst (λ k. TermProves (suc n) scope (T.ExE quoted x h t u) goal k) f.1
      (subst (λ k. TermProves (suc n) scope (T.ExE k x h t u) goal (w.0 ++ left)) (sym i)
      (ex_e x h y p d (sound u goal (assuming h body scope) w.1 w.3)
      (subst (λ k. IsFreshIn x (members (meaning k ∷ meaning goal ∷ left))) i
      (fresh_among x (meaning quoted ∷ meaning goal ∷ left) f.0))))
  ex_e_sound quoted x h t u goal _ s is e = cc
