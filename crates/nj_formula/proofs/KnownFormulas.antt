-- An induction over formulas, and what a fold gives for each form.
use Rattle.std.proofs.Common.{◌≡◌, ℕ, List, ap, sym, subst, ◌∙◌}
use Rattle.nj_formula.specs.declared.argument.Argument.{Argument}
use Rattle.nj_formula.specs.declared.formula.Formula.{Formula, fold-Formula, fold-roll-Formula, ind-Formula, roll-Formula, map-Formula, out-Formula, out-roll-Formula, roll-out-Formula}
use Rattle.nj_formula.specs.declared.formula.Formula.TheOpen.{Formula-F}
use Rattle.nj_formula.specs.declared.formula.Formula.TheVariants.{False, Atom, Not, And, Or, Implies, All, Exists, rolls-False, rolls-Atom, rolls-Not, rolls-And, rolls-Or, rolls-Implies, rolls-All, rolls-Exists}

module _ {A : Type 0} (step : Formula-F A → A) where
  pub fold-False : fold-Formula A step False ≡ step Formula-F.False
  fold-False = ap (fold-Formula A step) (sym rolls-False) ∙ fold-roll-Formula A step Formula-F.False

  pub fold-Atom : (p : List ℕ) (arguments : List Argument) → fold-Formula A step (Atom p arguments) ≡ step (Formula-F.Atom p arguments)
  fold-Atom p arguments = ap (fold-Formula A step) (sym (rolls-Atom p arguments)) ∙ fold-roll-Formula A step (Formula-F.Atom p arguments)

  pub fold-Not : (a : Formula) → fold-Formula A step (Not a) ≡ step (Formula-F.Not (fold-Formula A step a))
  fold-Not a = ap (fold-Formula A step) (sym (rolls-Not a)) ∙ fold-roll-Formula A step (Formula-F.Not a)

  pub fold-And : (a b : Formula) → fold-Formula A step (And a b) ≡ step (Formula-F.And (fold-Formula A step a) (fold-Formula A step b))
  fold-And a b = ap (fold-Formula A step) (sym (rolls-And a b)) ∙ fold-roll-Formula A step (Formula-F.And a b)

  pub fold-Or : (a b : Formula) → fold-Formula A step (Or a b) ≡ step (Formula-F.Or (fold-Formula A step a) (fold-Formula A step b))
  fold-Or a b = ap (fold-Formula A step) (sym (rolls-Or a b)) ∙ fold-roll-Formula A step (Formula-F.Or a b)

  pub fold-Implies : (a b : Formula) → fold-Formula A step (Implies a b) ≡ step (Formula-F.Implies (fold-Formula A step a) (fold-Formula A step b))
  fold-Implies a b = ap (fold-Formula A step) (sym (rolls-Implies a b)) ∙ fold-roll-Formula A step (Formula-F.Implies a b)

  pub fold-All : (x : List ℕ) (body : Formula) → fold-Formula A step (All x body) ≡ step (Formula-F.All x (fold-Formula A step body))
  fold-All x body = ap (fold-Formula A step) (sym (rolls-All x body)) ∙ fold-roll-Formula A step (Formula-F.All x body)

  pub fold-Exists : (x : List ℕ) (body : Formula) → fold-Formula A step (Exists x body) ≡ step (Formula-F.Exists x (fold-Formula A step body))
  fold-Exists x body = ap (fold-Formula A step) (sym (rolls-Exists x body)) ∙ fold-roll-Formula A step (Formula-F.Exists x body)

module _ (P : Formula → Type 0) (false : P False) (atom : (p : List ℕ) (arguments : List Argument) → P (Atom p arguments))
    (not : (a : Formula) → P a → P (Not a))
    (and : (a b : Formula) → P a → P b → P (And a b))
    (or : (a b : Formula) → P a → P b → P (Or a b))
    (implies : (a b : Formula) → P a → P b → P (Implies a b))
    (all : (x : List ℕ) (a : Formula) → P a → P (All x a))
    (exists : (x : List ℕ) (a : Formula) → P a → P (Exists x a)) where
  layer : (y : Formula-F ((a : Formula) × P a)) → P (roll-Formula (map-Formula ((a : Formula) × P a) Formula (λ e. e.0) y))
  layer Formula-F.False = subst P (sym rolls-False) false
  layer (Formula-F.Atom p arguments) = subst P (sym (rolls-Atom p arguments)) (atom p arguments)
  layer (Formula-F.Not a) = subst P (sym (rolls-Not a.0)) (not a.0 a.1)
  layer (Formula-F.And a b) = subst P (sym (rolls-And a.0 b.0)) (and a.0 b.0 a.1 b.1)
  layer (Formula-F.Or a b) = subst P (sym (rolls-Or a.0 b.0)) (or a.0 b.0 a.1 b.1)
  layer (Formula-F.Implies a b) = subst P (sym (rolls-Implies a.0 b.0)) (implies a.0 b.0 a.1 b.1)
  layer (Formula-F.All x a) = subst P (sym (rolls-All x a.0)) (all x a.0 a.1)
  layer (Formula-F.Exists x a) = subst P (sym (rolls-Exists x a.0)) (exists x a.0 a.1)

  pub formula_by_forms : (a : Formula) → P a
  formula_by_forms = ind-Formula P (λ x y is. subst (λ z. P (roll-Formula z)) is (layer y))

pub out-Implies : (a b : Formula) → out-Formula (Implies a b) ≡ Formula-F.Implies a b
out-Implies a b = ap out-Formula (sym (rolls-Implies a b)) ∙ out-roll-Formula (Formula-F.Implies a b)

-- a formula of this outermost layer
pub is_rolled : (f : Formula) (layer : Formula-F Formula) → out-Formula f ≡ layer → f ≡ roll-Formula layer
is_rolled f layer e = sym (roll-out-Formula f) ∙ ap roll-Formula e
