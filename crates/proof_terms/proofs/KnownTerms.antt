-- Two folds of one term, side by side, and what a fold gives for each form.
use Rattle.std.proofs.Common.{◌≡◌, ℕ, List, ap, sym, subst, ◌∙◌}
use Rattle.nj_formula.specs.declared.argument.Argument.{Argument}
use Rattle.nj_formula.specs.declared.formula.Formula.{Formula}
use Rattle.proof_terms.specs.declared.term.Cite.{Cite}
use Rattle.proof_terms.specs.declared.term.Term.{Term, fold-Term, fold-roll-Term, ind-Term, roll-Term, map-Term}
use Rattle.proof_terms.specs.declared.term.Term.TheOpen.{Term-F}
use Rattle.proof_terms.specs.declared.term.Term.TheVariants.{Fact, ConjI, ConjE1, ConjE2, DisjI1, DisjI2, DisjE, ImpI, ImpE, NotI, NotE, FalseE, AllI, AllE, ExI, ExE, rolls-Fact, rolls-ConjI, rolls-ConjE1, rolls-ConjE2, rolls-DisjI1, rolls-DisjI2, rolls-DisjE, rolls-ImpI, rolls-ImpE, rolls-NotI, rolls-NotE, rolls-FalseE, rolls-AllI, rolls-AllE, rolls-ExI, rolls-ExE}

module _ {A B : Type 0} (f : Term-F A → A) (g : Term-F B → B) (R : A → B → Type 0)
    (step : (y : Term-F ((a : A) × (b : B) × R a b))
    → R (f (map-Term ((a : A) × (b : B) × R a b) A (λ z. z.0) y)) (g (map-Term ((a : A) × (b : B) × R a b) B (λ z. z.1) y))) where
  abbrev Agrees : Term → Type 0
  Agrees t = R (fold-Term A f t) (fold-Term B g t)

  abbrev both_folds : (t : Term) × Agrees t → (a : A) × (b : B) × R a b
  both_folds e = (fold-Term A f e.0, fold-Term B g e.0, e.1)

  of_parts : (y : Term-F ((t : Term) × Agrees t))
      → R (f (map-Term Term A (fold-Term A f) (map-Term ((t : Term) × Agrees t) Term (λ e. e.0) y)))
      (g (map-Term Term B (fold-Term B g) (map-Term ((t : Term) × Agrees t) Term (λ e. e.0) y)))
  of_parts (Term-F.Fact c) = step (Term-F.Fact c)
  of_parts (Term-F.ConjI t u) = step (Term-F.ConjI (both_folds t) (both_folds u))
  of_parts (Term-F.ConjE1 b t) = step (Term-F.ConjE1 b (both_folds t))
  of_parts (Term-F.ConjE2 a t) = step (Term-F.ConjE2 a (both_folds t))
  of_parts (Term-F.DisjI1 t) = step (Term-F.DisjI1 (both_folds t))
  of_parts (Term-F.DisjI2 t) = step (Term-F.DisjI2 (both_folds t))
  of_parts (Term-F.DisjE a b t x u y v) = step (Term-F.DisjE a b (both_folds t) x (both_folds u) y (both_folds v))
  of_parts (Term-F.ImpI x t) = step (Term-F.ImpI x (both_folds t))
  of_parts (Term-F.ImpE a t u) = step (Term-F.ImpE a (both_folds t) (both_folds u))
  of_parts (Term-F.NotI x t) = step (Term-F.NotI x (both_folds t))
  of_parts (Term-F.NotE a t u) = step (Term-F.NotE a (both_folds t) (both_folds u))
  of_parts (Term-F.FalseE t) = step (Term-F.FalseE (both_folds t))
  of_parts (Term-F.AllI x t) = step (Term-F.AllI x (both_folds t))
  of_parts (Term-F.AllE q s t) = step (Term-F.AllE q s (both_folds t))
  of_parts (Term-F.ExI s t) = step (Term-F.ExI s (both_folds t))
  of_parts (Term-F.ExE q x h t u) = step (Term-F.ExE q x h (both_folds t) (both_folds u))

  rolled : (x : Term-F Term) → R (f (map-Term Term A (fold-Term A f) x)) (g (map-Term Term B (fold-Term B g) x)) → Agrees (roll-Term x)
  rolled x is = subst (λ b. R (fold-Term A f (roll-Term x)) b) (sym (fold-roll-Term B g x))
      (subst (λ a. R a (g (map-Term Term B (fold-Term B g) x))) (sym (fold-roll-Term A f x)) is)

  pub folds_agree : (t : Term) → Agrees t
  folds_agree = ind-Term Agrees (λ x y is. subst (λ z. Agrees (roll-Term z)) is (rolled (map-Term ((t : Term) × Agrees t) Term (λ e. e.0) y) (of_parts y)))

-- what a fold gives for each form
module _ {A : Type 0} (step : Term-F A → A) where
  abbrev all : Term → A
  all = fold-Term A step

  pub fold-Fact : (c : Cite) → all (Fact c) ≡ step (Term-F.Fact c)
  fold-Fact c = ap all (sym (rolls-Fact c)) ∙ fold-roll-Term A step (Term-F.Fact c)

  pub fold-ConjI : (t u : Term) → all (ConjI t u) ≡ step (Term-F.ConjI (all t) (all u))
  fold-ConjI t u = ap all (sym (rolls-ConjI t u)) ∙ fold-roll-Term A step (Term-F.ConjI t u)

  pub fold-ConjE1 : (b : Formula) (t : Term) → all (ConjE1 b t) ≡ step (Term-F.ConjE1 b (all t))
  fold-ConjE1 b t = ap all (sym (rolls-ConjE1 b t)) ∙ fold-roll-Term A step (Term-F.ConjE1 b t)

  pub fold-ConjE2 : (a : Formula) (t : Term) → all (ConjE2 a t) ≡ step (Term-F.ConjE2 a (all t))
  fold-ConjE2 a t = ap all (sym (rolls-ConjE2 a t)) ∙ fold-roll-Term A step (Term-F.ConjE2 a t)

  pub fold-DisjI1 : (t : Term) → all (DisjI1 t) ≡ step (Term-F.DisjI1 (all t))
  fold-DisjI1 t = ap all (sym (rolls-DisjI1 t)) ∙ fold-roll-Term A step (Term-F.DisjI1 t)

  pub fold-DisjI2 : (t : Term) → all (DisjI2 t) ≡ step (Term-F.DisjI2 (all t))
  fold-DisjI2 t = ap all (sym (rolls-DisjI2 t)) ∙ fold-roll-Term A step (Term-F.DisjI2 t)

  pub fold-DisjE : (a b : Formula) (t : Term) (x : List ℕ) (u : Term) (y : List ℕ) (v : Term) → all (DisjE a b t x u y v) ≡ step (Term-F.DisjE a b (all t) x (all u) y (all v))
  fold-DisjE a b t x u y v = ap all (sym (rolls-DisjE a b t x u y v)) ∙ fold-roll-Term A step (Term-F.DisjE a b t x u y v)

  pub fold-ImpI : (x : List ℕ) (t : Term) → all (ImpI x t) ≡ step (Term-F.ImpI x (all t))
  fold-ImpI x t = ap all (sym (rolls-ImpI x t)) ∙ fold-roll-Term A step (Term-F.ImpI x t)

  pub fold-ImpE : (a : Formula) (t u : Term) → all (ImpE a t u) ≡ step (Term-F.ImpE a (all t) (all u))
  fold-ImpE a t u = ap all (sym (rolls-ImpE a t u)) ∙ fold-roll-Term A step (Term-F.ImpE a t u)

  pub fold-NotI : (x : List ℕ) (t : Term) → all (NotI x t) ≡ step (Term-F.NotI x (all t))
  fold-NotI x t = ap all (sym (rolls-NotI x t)) ∙ fold-roll-Term A step (Term-F.NotI x t)

  pub fold-NotE : (a : Formula) (t u : Term) → all (NotE a t u) ≡ step (Term-F.NotE a (all t) (all u))
  fold-NotE a t u = ap all (sym (rolls-NotE a t u)) ∙ fold-roll-Term A step (Term-F.NotE a t u)

  pub fold-FalseE : (t : Term) → all (FalseE t) ≡ step (Term-F.FalseE (all t))
  fold-FalseE t = ap all (sym (rolls-FalseE t)) ∙ fold-roll-Term A step (Term-F.FalseE t)

  pub fold-AllI : (x : List ℕ) (t : Term) → all (AllI x t) ≡ step (Term-F.AllI x (all t))
  fold-AllI x t = ap all (sym (rolls-AllI x t)) ∙ fold-roll-Term A step (Term-F.AllI x t)

  pub fold-AllE : (q : Formula) (s : Argument) (t : Term) → all (AllE q s t) ≡ step (Term-F.AllE q s (all t))
  fold-AllE q s t = ap all (sym (rolls-AllE q s t)) ∙ fold-roll-Term A step (Term-F.AllE q s t)

  pub fold-ExI : (s : Argument) (t : Term) → all (ExI s t) ≡ step (Term-F.ExI s (all t))
  fold-ExI s t = ap all (sym (rolls-ExI s t)) ∙ fold-roll-Term A step (Term-F.ExI s t)

  pub fold-ExE : (q : Formula) (x h : List ℕ) (t u : Term) → all (ExE q x h t u) ≡ step (Term-F.ExE q x h (all t) (all u))
  fold-ExE q x h t u = ap all (sym (rolls-ExE q x h t u)) ∙ fold-roll-Term A step (Term-F.ExE q x h t u)
