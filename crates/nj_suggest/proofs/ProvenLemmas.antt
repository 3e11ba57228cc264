-- A rule whose parts are proofs is a proof.
use Rattle.std.proofs.Common.{◌≡◌, ℕ, suc, List, Some, Ok, Err, refl, ap, ◌∙◌}
use Rattle.nj_formula.specs.declared.formula.Formula.{Formula, out-Formula}
use Rattle.nj_formula.specs.declared.formula.Formula.TheOpen.{Formula-F}
use Rattle.nj_formula.specs.declared.formula.Formula.TheVariants as F
use Rattle.nj_formula.specs.Statement.{Statement}
use Rattle.theory_ctx.specs.Locals.{Scoped}
use Rattle.proof_terms.specs.declared.term.Term.{Term, out-Term}
use Rattle.proof_terms.specs.declared.term.Term.TheOpen.{Term-F}
use Rattle.proof_terms.specs.declared.term.Term.TheVariants.{ConjI, ConjE1, ConjE2, DisjI1, DisjI2, DisjE, ImpI, ImpE, NotI, NotE, FalseE}
use Rattle.proof_terms.proofs.KnownLayers.{out-ConjI, out-ConjE1, out-ConjE2, out-DisjI1, out-DisjI2, out-DisjE, out-ImpI, out-ImpE, out-NotI, out-NotE, out-FalseE}
use Rattle.proof_checks.specs.Checks.{Found, and_then, by_one, by_two, of_step, step_within, checked_within}
use Rattle.proof_checks.specs.Rows.{Planned, step_of, conj_i, disj_i1, disj_i2, imp_i, not_i, not_e}
use Rattle.proof_checks.specs.Scopes.{inside}

-- the proof is right
pub record IsRight (found : Found) : Type 0 where
  pub from : List Statement
  pub is : found ≡ Ok from

then_right : (found : Found) (next : List Statement → Found) → IsRight found → ((s : List Statement) → IsRight (next s)) → IsRight (and_then found next)
then_right (Ok s) next right more = more s
then_right (Err fault) next right more = absurd (no right.is)
  where
    no : Err fault ≡ Ok right.from → ⊥
    no e = cc

ok : (s : List Statement) → IsRight (Ok s)
ok s = record { from = s; is = refl }

module _ (n : ℕ) (scope : Scoped) (goal : Formula) where
  ruled : (t : Term) (layer : Term-F Term) (planned : Planned) → out-Term t ≡ layer → step_of layer goal ≡ planned
      → IsRight (and_then planned (of_step (checked_within n) scope goal)) → IsRight (checked_within (suc n) t goal scope)
  unfolding checked_within step_within
  ruled t layer planned out is right = record {
    from = right.from;
    is =
        ap (λ l. and_then (step_within (suc n) l goal) (of_step (checked_within n) scope goal)) out
        ∙ (ap (λ s. and_then s (of_step (checked_within n) scope goal)) is ∙ right.is);
  }

  pub by_conj_i : (t u : Term) (a b : Formula) → out-Formula goal ≡ Formula-F.And a b
      → IsRight (checked_within n t a scope) → IsRight (checked_within n u b scope) → IsRight (checked_within (suc n) (ConjI t u) goal scope)
  unfolding step_of of_step by_two
  by_conj_i t u a b out left right =
      ruled (ConjI t u) (Term-F.ConjI t u) (conj_i t u (Formula-F.And a b)) (out-ConjI t u) (ap (conj_i t u) out)
      (then_right _ _ (then_right _ _ left (λ s. ok _)) (λ s. then_right _ _ (then_right _ _ right (λ t. ok _)) (λ t. ok _)))

  pub by_disj_i1 : (t : Term) (a b : Formula) → out-Formula goal ≡ Formula-F.Or a b → IsRight (checked_within n t a scope)
      → IsRight (checked_within (suc n) (DisjI1 t) goal scope)
  unfolding step_of of_step by_one
  by_disj_i1 t a b out right =
      ruled (DisjI1 t) (Term-F.DisjI1 t) (disj_i1 t (Formula-F.Or a b)) (out-DisjI1 t) (ap (disj_i1 t) out)
      (then_right _ _ (then_right _ _ right (λ s. ok _)) (λ s. ok _))

  pub by_disj_i2 : (t : Term) (a b : Formula) → out-Formula goal ≡ Formula-F.Or a b → IsRight (checked_within n t b scope)
      → IsRight (checked_within (suc n) (DisjI2 t) goal scope)
  unfolding step_of of_step by_one
  by_disj_i2 t a b out right =
      ruled (DisjI2 t) (Term-F.DisjI2 t) (disj_i2 t (Formula-F.Or a b)) (out-DisjI2 t) (ap (disj_i2 t) out)
      (then_right _ _ (then_right _ _ right (λ s. ok _)) (λ s. ok _))

  pub by_imp_i : (x : List ℕ) (t : Term) (a b : Formula) → out-Formula goal ≡ Formula-F.Implies a b
      → IsRight (checked_within n t b (inside (Some (record { name = x; formula = a })) scope)) → IsRight (checked_within (suc n) (ImpI x t) goal scope)
  unfolding step_of of_step by_one
  by_imp_i x t a b out right =
      ruled (ImpI x t) (Term-F.ImpI x t) (imp_i x t (Formula-F.Implies a b)) (out-ImpI x t) (ap (imp_i x t) out)
      (then_right _ _ (then_right _ _ right (λ s. ok _)) (λ s. ok _))

  pub by_not_i : (x : List ℕ) (t : Term) (a : Formula) → out-Formula goal ≡ Formula-F.Not a
      → IsRight (checked_within n t F.False (inside (Some (record { name = x; formula = a })) scope)) → IsRight (checked_within (suc n) (NotI x t) goal scope)
  unfolding step_of of_step by_one
  by_not_i x t a out right =
      ruled (NotI x t) (Term-F.NotI x t) (not_i x t (Formula-F.Not a)) (out-NotI x t) (ap (not_i x t) out)
      (then_right _ _ (then_right _ _ right (λ s. ok _)) (λ s. ok _))

  pub by_conj_e1 : (b : Formula) (t : Term) → IsRight (checked_within n t (F.And goal b) scope) → IsRight (checked_within (suc n) (ConjE1 b t) goal scope)
  unfolding step_of of_step by_one
  by_conj_e1 b t right =
      ruled (ConjE1 b t) (Term-F.ConjE1 b t) (step_of (Term-F.ConjE1 b t) goal) (out-ConjE1 b t) refl
      (then_right _ _ (then_right _ _ right (λ s. ok _)) (λ s. ok _))

  pub by_conj_e2 : (a : Formula) (t : Term) → IsRight (checked_within n t (F.And a goal) scope) → IsRight (checked_within (suc n) (ConjE2 a t) goal scope)
  unfolding step_of of_step by_one
  by_conj_e2 a t right =
      ruled (ConjE2 a t) (Term-F.ConjE2 a t) (step_of (Term-F.ConjE2 a t) goal) (out-ConjE2 a t) refl
      (then_right _ _ (then_right _ _ right (λ s. ok _)) (λ s. ok _))

  pub by_imp_e : (a : Formula) (t u : Term) → IsRight (checked_within n t (F.Implies a goal) scope) → IsRight (checked_within n u a scope)
      → IsRight (checked_within (suc n) (ImpE a t u) goal scope)
  unfolding step_of of_step by_two
  by_imp_e a t u left right =
      ruled (ImpE a t u) (Term-F.ImpE a t u) (step_of (Term-F.ImpE a t u) goal) (out-ImpE a t u) refl
      (then_right _ _ (then_right _ _ left (λ s. ok _)) (λ s. then_right _ _ (then_right _ _ right (λ t. ok _)) (λ t. ok _)))

  pub by_not_e : (a : Formula) (t u : Term) → out-Formula goal ≡ Formula-F.False → IsRight (checked_within n t (F.Not a) scope) → IsRight (checked_within n u a scope)
      → IsRight (checked_within (suc n) (NotE a t u) goal scope)
  unfolding step_of of_step by_two
  by_not_e a t u out left right =
      ruled (NotE a t u) (Term-F.NotE a t u) (not_e a t u Formula-F.False) (out-NotE a t u) (ap (not_e a t u) out)
      (then_right _ _ (then_right _ _ left (λ s. ok _)) (λ s. then_right _ _ (then_right _ _ right (λ t. ok _)) (λ t. ok _)))

  pub by_false_e : (t : Term) → IsRight (checked_within n t F.False scope) → IsRight (checked_within (suc n) (FalseE t) goal scope)
  unfolding step_of of_step by_one
  by_false_e t right =
      ruled (FalseE t) (Term-F.FalseE t) (step_of (Term-F.FalseE t) goal) (out-FalseE t) refl
      (then_right _ _ (then_right _ _ right (λ s. ok _)) (λ s. ok _))

  pub by_disj_e : (a b : Formula) (t : Term) (x : List ℕ) (u v : Term) → IsRight (checked_within n t (F.Or a b) scope)
      → IsRight (checked_within n u goal (inside (Some (record { name = x; formula = a })) scope))
      → IsRight (checked_within n v goal (inside (Some (record { name = x; formula = b })) scope))
      → IsRight (checked_within (suc n) (DisjE a b t x u x v) goal scope)
  unfolding step_of of_step
  by_disj_e a b t x u v fact left right =
      ruled (DisjE a b t x u x v) (Term-F.DisjE a b t x u x v) (step_of (Term-F.DisjE a b t x u x v) goal)
      (out-DisjE a b t x u x v) refl
      (then_right _ _ (then_right _ _ fact (λ s. ok _)) (λ s. then_right _ _ (then_right _ _ left (λ t. ok _)) (λ t. then_right _ _ (then_right _ _ right (λ u. ok _)) (λ u. ok _))))
