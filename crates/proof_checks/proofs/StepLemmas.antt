-- What is planned for a term of each form is what its row says.
use Rattle.std.proofs.Common.{◌≡◌, ℕ, List, Result, Ok, sym, ◌∙◌, ap, subst}
use Rattle.nj_formula.specs.declared.argument.Argument.{Argument}
use Rattle.nj_formula.specs.declared.formula.Formula.{Formula, out-Formula}
use Rattle.proof_terms.specs.declared.term.Cite.{Cite}
use Rattle.proof_terms.specs.declared.term.Term.{Term, out-Term, out-roll-Term}
use Rattle.proof_terms.specs.declared.term.Term.TheOpen.{Term-F}
use Rattle.proof_terms.specs.declared.term.Term.TheVariants as T
use Rattle.proof_checks.specs.declared.halt.Halt.{Halt}
use Rattle.proof_checks.specs.declared.step.Step.{Step}
use Rattle.proof_checks.specs.declared.step.Step.TheVariants.{Cited}
use Rattle.proof_checks.specs.Answers.{Plans}
use Rattle.proof_checks.specs.Rows.{step_of}
use Rattle.proof_checks.specs.Rows as row

module _ (term : Term) (goal : Formula) (result : Result Step Halt) where
  along : (l : Term-F Term) → out-Term term ≡ l → Plans result (step_of l goal) → Plans result (step_of (out-Term term) goal)
  along l is told = subst (λ k. Plans result (step_of k goal)) (sym is) told

  pub of_Fact : (cite : Cite) → term ≡ T.Fact cite → Plans result (Ok (Cited cite)) → Plans result (step_of (out-Term term) goal)
  unfolding step_of
  of_Fact cite is told = along (Term-F.Fact cite) (ap out-Term (is ∙ sym (T.rolls-Fact cite)) ∙ out-roll-Term (Term-F.Fact cite)) told

  pub of_ConjI : (t : Term) (u : Term) → term ≡ T.ConjI t u → Plans result (row.conj_i t u (out-Formula goal)) → Plans result (step_of (out-Term term) goal)
  unfolding step_of
  of_ConjI t u is told = along (Term-F.ConjI t u) (ap out-Term (is ∙ sym (T.rolls-ConjI t u)) ∙ out-roll-Term (Term-F.ConjI t u)) told

  pub of_ConjE1 : (b : Formula) (t : Term) → term ≡ T.ConjE1 b t → Plans result (Ok (row.conj_e1 b t goal)) → Plans result (step_of (out-Term term) goal)
  unfolding step_of
  of_ConjE1 b t is told = along (Term-F.ConjE1 b t) (ap out-Term (is ∙ sym (T.rolls-ConjE1 b t)) ∙ out-roll-Term (Term-F.ConjE1 b t)) told

  pub of_ConjE2 : (a : Formula) (t : Term) → term ≡ T.ConjE2 a t → Plans result (Ok (row.conj_e2 a t goal)) → Plans result (step_of (out-Term term) goal)
  unfolding step_of
  of_ConjE2 a t is told = along (Term-F.ConjE2 a t) (ap out-Term (is ∙ sym (T.rolls-ConjE2 a t)) ∙ out-roll-Term (Term-F.ConjE2 a t)) told

  pub of_DisjI1 : (t : Term) → term ≡ T.DisjI1 t → Plans result (row.disj_i1 t (out-Formula goal)) → Plans result (step_of (out-Term term) goal)
  unfolding step_of
  of_DisjI1 t is told = along (Term-F.DisjI1 t) (ap out-Term (is ∙ sym (T.rolls-DisjI1 t)) ∙ out-roll-Term (Term-F.DisjI1 t)) told

  pub of_DisjI2 : (t : Term) → term ≡ T.DisjI2 t → Plans result (row.disj_i2 t (out-Formula goal)) → Plans result (step_of (out-Term term) goal)
  unfolding step_of
  of_DisjI2 t is told = along (Term-F.DisjI2 t) (ap out-Term (is ∙ sym (T.rolls-DisjI2 t)) ∙ out-roll-Term (Term-F.DisjI2 t)) told

  pub of_DisjE : (a : Formula) (b : Formula) (t : Term) (x : List ℕ) (u : Term) (y : List ℕ) (v : Term) → term ≡ T.DisjE a b t x u y v → Plans result (Ok (row.disj_e a b t x u y v goal)) → Plans result (step_of (out-Term term) goal)
  unfolding step_of
  of_DisjE a b t x u y v is told = along (Term-F.DisjE a b t x u y v) (ap out-Term (is ∙ sym (T.rolls-DisjE a b t x u y v)) ∙ out-roll-Term (Term-F.DisjE a b t x u y v)) told

  pub of_ImpI : (x : List ℕ) (t : Term) → term ≡ T.ImpI x t → Plans result (row.imp_i x t (out-Formula goal)) → Plans result (step_of (out-Term term) goal)
  unfolding step_of
  of_ImpI x t is told = along (Term-F.ImpI x t) (ap out-Term (is ∙ sym (T.rolls-ImpI x t)) ∙ out-roll-Term (Term-F.ImpI x t)) told

  pub of_ImpE : (a : Formula) (t : Term) (u : Term) → term ≡ T.ImpE a t u → Plans result (Ok (row.imp_e a t u goal)) → Plans result (step_of (out-Term term) goal)
  unfolding step_of
  of_ImpE a t u is told = along (Term-F.ImpE a t u) (ap out-Term (is ∙ sym (T.rolls-ImpE a t u)) ∙ out-roll-Term (Term-F.ImpE a t u)) told

  pub of_NotI : (x : List ℕ) (t : Term) → term ≡ T.NotI x t → Plans result (row.not_i x t (out-Formula goal)) → Plans result (step_of (out-Term term) goal)
  unfolding step_of
  of_NotI x t is told = along (Term-F.NotI x t) (ap out-Term (is ∙ sym (T.rolls-NotI x t)) ∙ out-roll-Term (Term-F.NotI x t)) told

  pub of_NotE : (a : Formula) (t : Term) (u : Term) → term ≡ T.NotE a t u → Plans result (row.not_e a t u (out-Formula goal)) → Plans result (step_of (out-Term term) goal)
  unfolding step_of
  of_NotE a t u is told = along (Term-F.NotE a t u) (ap out-Term (is ∙ sym (T.rolls-NotE a t u)) ∙ out-roll-Term (Term-F.NotE a t u)) told

  pub of_FalseE : (t : Term) → term ≡ T.FalseE t → Plans result (Ok (row.false_e t)) → Plans result (step_of (out-Term term) goal)
  unfolding step_of
  of_FalseE t is told = along (Term-F.FalseE t) (ap out-Term (is ∙ sym (T.rolls-FalseE t)) ∙ out-roll-Term (Term-F.FalseE t)) told

  pub of_AllI : (x : List ℕ) (t : Term) → term ≡ T.AllI x t → Plans result (row.all_i x t (out-Formula goal)) → Plans result (step_of (out-Term term) goal)
  unfolding step_of
  of_AllI x t is told = along (Term-F.AllI x t) (ap out-Term (is ∙ sym (T.rolls-AllI x t)) ∙ out-roll-Term (Term-F.AllI x t)) told

  pub of_AllE : (quoted : Formula) (s : Argument) (t : Term) (quoted_got : Formula) → term ≡ T.AllE quoted s t → quoted_got ≡ quoted → Plans result (row.all_e quoted_got s t goal (out-Formula quoted_got)) → Plans result (step_of (out-Term term) goal)
  unfolding step_of
  of_AllE quoted s t quoted_got is quoted_is told = along (Term-F.AllE quoted s t) (ap out-Term (is ∙ sym (T.rolls-AllE quoted s t)) ∙ out-roll-Term (Term-F.AllE quoted s t)) (subst (λ q. Plans result (row.all_e q s t goal (out-Formula q))) quoted_is told)

  pub of_ExI : (s : Argument) (t : Term) → term ≡ T.ExI s t → Plans result (row.ex_i s t (out-Formula goal)) → Plans result (step_of (out-Term term) goal)
  unfolding step_of
  of_ExI s t is told = along (Term-F.ExI s t) (ap out-Term (is ∙ sym (T.rolls-ExI s t)) ∙ out-roll-Term (Term-F.ExI s t)) told

  pub of_ExE : (quoted : Formula) (x : List ℕ) (h : List ℕ) (t : Term) (u : Term) (quoted_got : Formula) → term ≡ T.ExE quoted x h t u → quoted_got ≡ quoted → Plans result (row.ex_e quoted_got x h t u goal (out-Formula quoted_got)) → Plans result (step_of (out-Term term) goal)
  unfolding step_of
  of_ExE quoted x h t u quoted_got is quoted_is told = along (Term-F.ExE quoted x h t u) (ap out-Term (is ∙ sym (T.rolls-ExE quoted x h t u)) ∙ out-roll-Term (Term-F.ExE quoted x h t u)) (subst (λ q. Plans result (row.ex_e q x h t u goal (out-Formula q))) quoted_is told)
