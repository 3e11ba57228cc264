-- What a term of each rule comes to where it is checked.
use Rattle.std.proofs.Common.{◌≡◌, ℕ, zero, suc, List, ◌++◌, Some, None, Ok, Err, Option, refl, ap, ◌∙◌}
use Rattle.nj_formula.specs.declared.formula.Formula.{Formula, out-Formula}
use Rattle.nj_formula.specs.declared.formula.Formula.TheVariants as F
use Rattle.theory_ctx.specs.declared.local.Local.{Local}
use Rattle.theory_ctx.specs.Locals.{Scoped, looked_in}
use Rattle.proof_terms.specs.declared.fault.TermFault.TheVariants.{ProofTooDeep}
use Rattle.proof_terms.specs.declared.term.Cite.{Cite}
use Rattle.proof_terms.specs.declared.term.Term.{Term, out-Term}
use Rattle.proof_terms.specs.declared.term.Term.TheOpen.{Term-F}
use Rattle.proof_terms.specs.declared.term.Term.TheVariants.{Fact, ConjI, ConjE1, ConjE2, DisjI1, DisjI2, DisjE, ImpI, ImpE, NotI, NotE, FalseE}
use Rattle.proof_terms.proofs.KnownLayers.{out-Fact, out-ConjI, out-ConjE1, out-ConjE2, out-DisjI1, out-DisjI2, out-DisjE, out-ImpI, out-ImpE, out-NotI, out-NotE, out-FalseE}
use Rattle.proof_checks.specs.Checks.{Found, and_then, cited, by_one, by_two, discharged, of_step, step_within, checked_within}
use Rattle.proof_checks.specs.Rows.{step_of, conj_i, disj_i1, disj_i2, imp_i, not_i, not_e}
use Rattle.proof_checks.specs.Scopes.{inside}

-- what one part, two or three come to
abbrev pub one : Option Local → Found → Found
one own p = and_then (discharged own p) (λ s. Ok s)

abbrev pub two : Option Local → Option Local → Found → Found → Found
two own other p q = and_then (discharged own p) (λ s. and_then (discharged other q) (λ t. Ok (s ++ t)))

abbrev pub three : Option Local → Option Local → Option Local → Found → Found → Found → Found
three own other last p q r = and_then (discharged own p) (λ s. and_then (discharged other q) (λ t. and_then (discharged last r) (λ u. Ok (s ++ t ++ u))))

module _ (goal : Formula) (scope : Scoped) where
  too_deep : (t : Term) (layer : Term-F Term) → out-Term t ≡ layer → step_within zero layer goal ≡ Err ProofTooDeep → checked_within zero t goal scope ≡ Err ProofTooDeep
  unfolding checked_within
  too_deep t layer out deep =
      ap (λ l. and_then (step_within zero l goal) (of_step (λ _ _ _. Err ProofTooDeep) scope goal)) out
      ∙ ap (λ s. and_then s (of_step (λ _ _ _. Err ProofTooDeep) scope goal)) deep

  pub fact_at : (n : ℕ) (c : Cite) → checked_within n (Fact c) goal scope ≡ cited c.name goal (looked_in scope c.name)
  unfolding checked_within step_within step_of of_step
  fact_at zero c = ap (λ l. and_then (step_within zero l goal) (of_step (λ _ _ _. Err ProofTooDeep) scope goal)) (out-Fact c)
  fact_at (suc n) c = ap (λ l. and_then (step_within (suc n) l goal) (of_step (checked_within n) scope goal)) (out-Fact c)

  pub deep_ConjI : (t u : Term) → checked_within zero (ConjI t u) goal scope ≡ Err ProofTooDeep
  unfolding step_within
  deep_ConjI t u = too_deep _ _ (out-ConjI t u) refl

  pub deep_ConjE1 : (b : Formula) (t : Term) → checked_within zero (ConjE1 b t) goal scope ≡ Err ProofTooDeep
  unfolding step_within
  deep_ConjE1 b t = too_deep _ _ (out-ConjE1 b t) refl

  pub deep_ConjE2 : (a : Formula) (t : Term) → checked_within zero (ConjE2 a t) goal scope ≡ Err ProofTooDeep
  unfolding step_within
  deep_ConjE2 a t = too_deep _ _ (out-ConjE2 a t) refl

  pub deep_DisjI1 : (t : Term) → checked_within zero (DisjI1 t) goal scope ≡ Err ProofTooDeep
  unfolding step_within
  deep_DisjI1 t = too_deep _ _ (out-DisjI1 t) refl

  pub deep_DisjI2 : (t : Term) → checked_within zero (DisjI2 t) goal scope ≡ Err ProofTooDeep
  unfolding step_within
  deep_DisjI2 t = too_deep _ _ (out-DisjI2 t) refl

  pub deep_DisjE : (a b : Formula) (t : Term) (x : List ℕ) (u : Term) (y : List ℕ) (v : Term) → checked_within zero (DisjE a b t x u y v) goal scope ≡ Err ProofTooDeep
  unfolding step_within
  deep_DisjE a b t x u y v = too_deep _ _ (out-DisjE a b t x u y v) refl

  pub deep_ImpI : (x : List ℕ) (t : Term) → checked_within zero (ImpI x t) goal scope ≡ Err ProofTooDeep
  unfolding step_within
  deep_ImpI x t = too_deep _ _ (out-ImpI x t) refl

  pub deep_ImpE : (a : Formula) (t u : Term) → checked_within zero (ImpE a t u) goal scope ≡ Err ProofTooDeep
  unfolding step_within
  deep_ImpE a t u = too_deep _ _ (out-ImpE a t u) refl

  pub deep_NotI : (x : List ℕ) (t : Term) → checked_within zero (NotI x t) goal scope ≡ Err ProofTooDeep
  unfolding step_within
  deep_NotI x t = too_deep _ _ (out-NotI x t) refl

  pub deep_NotE : (a : Formula) (t u : Term) → checked_within zero (NotE a t u) goal scope ≡ Err ProofTooDeep
  unfolding step_within
  deep_NotE a t u = too_deep _ _ (out-NotE a t u) refl

  pub deep_FalseE : (t : Term) → checked_within zero (FalseE t) goal scope ≡ Err ProofTooDeep
  unfolding step_within
  deep_FalseE t = too_deep _ _ (out-FalseE t) refl

  module _ (n : ℕ) where
    ruled : (t : Term) (layer : Term-F Term) → out-Term t ≡ layer → checked_within (suc n) t goal scope ≡ and_then (step_of layer goal) (of_step (checked_within n) scope goal)
    unfolding checked_within step_within
    ruled t layer out = ap (λ l. and_then (step_within (suc n) l goal) (of_step (checked_within n) scope goal)) out

    abbrev pub sub : Term → Formula → Found
    sub t g = checked_within n t g scope

    abbrev pub under : List ℕ → Formula → Term → Formula → Found
    under x a t g = checked_within n t g (inside (Some (record { name = x; formula = a })) scope)

    pub at_ConjI : (t u : Term) → checked_within (suc n) (ConjI t u) goal scope ≡ and_then (conj_i t u (out-Formula goal)) (of_step (checked_within n) scope goal)
    unfolding step_of
    at_ConjI t u = ruled (ConjI t u) (Term-F.ConjI t u) (out-ConjI t u)

    pub at_ConjE1 : (b : Formula) (t : Term) → checked_within (suc n) (ConjE1 b t) goal scope ≡ one None (sub t (F.And goal b))
    unfolding step_of of_step by_one
    at_ConjE1 b t = ruled (ConjE1 b t) (Term-F.ConjE1 b t) (out-ConjE1 b t)

    pub at_ConjE2 : (a : Formula) (t : Term) → checked_within (suc n) (ConjE2 a t) goal scope ≡ one None (sub t (F.And a goal))
    unfolding step_of of_step by_one
    at_ConjE2 a t = ruled (ConjE2 a t) (Term-F.ConjE2 a t) (out-ConjE2 a t)

    pub at_DisjI1 : (t : Term) → checked_within (suc n) (DisjI1 t) goal scope ≡ and_then (disj_i1 t (out-Formula goal)) (of_step (checked_within n) scope goal)
    unfolding step_of
    at_DisjI1 t = ruled (DisjI1 t) (Term-F.DisjI1 t) (out-DisjI1 t)

    pub at_DisjI2 : (t : Term) → checked_within (suc n) (DisjI2 t) goal scope ≡ and_then (disj_i2 t (out-Formula goal)) (of_step (checked_within n) scope goal)
    unfolding step_of
    at_DisjI2 t = ruled (DisjI2 t) (Term-F.DisjI2 t) (out-DisjI2 t)

    pub at_DisjE : (a b : Formula) (t : Term) (x : List ℕ) (u : Term) (y : List ℕ) (v : Term) → checked_within (suc n) (DisjE a b t x u y v) goal scope ≡ three None (Some (record { name = x; formula = a })) (Some (record { name = y; formula = b })) (sub t (F.Or a b)) (under x a u goal) (under y b v goal)
    unfolding step_of of_step
    at_DisjE a b t x u y v = ruled (DisjE a b t x u y v) (Term-F.DisjE a b t x u y v) (out-DisjE a b t x u y v)

    pub at_ImpI : (x : List ℕ) (t : Term) → checked_within (suc n) (ImpI x t) goal scope ≡ and_then (imp_i x t (out-Formula goal)) (of_step (checked_within n) scope goal)
    unfolding step_of
    at_ImpI x t = ruled (ImpI x t) (Term-F.ImpI x t) (out-ImpI x t)

    pub at_ImpE : (a : Formula) (t u : Term) → checked_within (suc n) (ImpE a t u) goal scope ≡ two None None (sub t (F.Implies a goal)) (sub u a)
    unfolding step_of of_step by_two
    at_ImpE a t u = ruled (ImpE a t u) (Term-F.ImpE a t u) (out-ImpE a t u)

    pub at_NotI : (x : List ℕ) (t : Term) → checked_within (suc n) (NotI x t) goal scope ≡ and_then (not_i x t (out-Formula goal)) (of_step (checked_within n) scope goal)
    unfolding step_of
    at_NotI x t = ruled (NotI x t) (Term-F.NotI x t) (out-NotI x t)

    pub at_NotE : (a : Formula) (t u : Term) → checked_within (suc n) (NotE a t u) goal scope ≡ and_then (not_e a t u (out-Formula goal)) (of_step (checked_within n) scope goal)
    unfolding step_of
    at_NotE a t u = ruled (NotE a t u) (Term-F.NotE a t u) (out-NotE a t u)

    pub at_FalseE : (t : Term) → checked_within (suc n) (FalseE t) goal scope ≡ one None (sub t F.False)
    unfolding step_of of_step by_one
    at_FalseE t = ruled (FalseE t) (Term-F.FalseE t) (out-FalseE t)
