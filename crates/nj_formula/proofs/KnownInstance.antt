-- What an instance of a formula says is the instance of what the formula says.
use Rattle.std.proofs.Common.{◌≡◌, ℕ, ◌+◌, map, ap, sym, ◌∙◌}
use Rattle.nj_formula.specs.declared.argument.Argument.{Argument}
use Rattle.nj_formula.specs.declared.formula.Formula.{Formula}
use Rattle.nj_formula.specs.declared.formula.Formula.TheVariants.{False, Atom, Not, And, Or, Implies, All, Exists}
use Rattle.nj_formula.specs.Statement.{Statement, falsity, neg, conj, disj, implies, every, exists}
use Rattle.nj_formula.specs.Meaning.{meaning}
use Rattle.nj_formula.specs.Instance.{filled_argument, filled, instance}
use Rattle.nj_formula.specs.FormulaInstance.{formula_layer, filled_formula, formula_instance}
use Rattle.nj_formula.proofs.KnownMeaning.{meaning-False, meaning-Atom, meaning-Not, meaning-And, meaning-Or, meaning-Implies, meaning-All, meaning-Exists}
use Rattle.nj_formula.proofs.KnownFormulas.{fold-False, fold-Atom, fold-Not, fold-And, fold-Or, fold-Implies, fold-All, fold-Exists, formula_by_forms}

joined : (op : Statement → Statement → Statement) {a b c d : Statement} → a ≡ b → c ≡ d → op a c ≡ op b d
joined op {a} {b} {c} {d} h k = ap (λ s. op s c) h ∙ ap (op b) k

module _ (t : Argument) where
  -- the formula with the term in any place says so
  abbrev Says : Formula → Type 0
  Says f = (n : ℕ) → meaning (filled_formula t f n) ≡ filled n t (meaning f)

  -- by the equation of each form
  by : (f g : Formula) (u : Statement) (n : ℕ) → filled_formula t f n ≡ g → meaning g ≡ filled n t u → meaning f ≡ u
      → meaning (filled_formula t f n) ≡ filled n t (meaning f)
  by f g u n is says of = ap meaning is ∙ (says ∙ ap (filled n t) (sym of))

  pub filled_says : (f : Formula) → Says f
  filled_says = formula_by_forms Says
      (λ n. let e : filled_formula t False n ≡ False = ap (λ k. k n) (fold-False (formula_layer t)) in
      by False False falsity n e meaning-False meaning-False)
      (λ p args n. let e : filled_formula t (Atom p args) n ≡ Atom p (map (filled_argument n t) args) = ap (λ k. k n) (fold-Atom (formula_layer t) p args) in
      by _ _ _ n e (meaning-Atom _ _) (meaning-Atom p args))
      (λ a h n. let e : filled_formula t (Not a) n ≡ Not (filled_formula t a n) = ap (λ k. k n) (fold-Not (formula_layer t) a) in
      by _ _ _ n e (meaning-Not _ ∙ ap neg (h n)) (meaning-Not a))
      (λ a b h k n. let e : filled_formula t (And a b) n ≡ And (filled_formula t a n) (filled_formula t b n) = ap (λ k. k n) (fold-And (formula_layer t) a b) in
      by _ _ _ n e (meaning-And _ _ ∙ joined conj (h n) (k n)) (meaning-And a b))
      (λ a b h k n. let e : filled_formula t (Or a b) n ≡ Or (filled_formula t a n) (filled_formula t b n) = ap (λ k. k n) (fold-Or (formula_layer t) a b) in
      by _ _ _ n e (meaning-Or _ _ ∙ joined disj (h n) (k n)) (meaning-Or a b))
      (λ a b h k n. let e : filled_formula t (Implies a b) n ≡ Implies (filled_formula t a n) (filled_formula t b n) = ap (λ k. k n) (fold-Implies (formula_layer t) a b) in
      by _ _ _ n e (meaning-Implies _ _ ∙ joined implies (h n) (k n)) (meaning-Implies a b))
      (λ x a h n. let e : filled_formula t (All x a) n ≡ All x (filled_formula t a (n + 1)) = ap (λ k. k n) (fold-All (formula_layer t) x a) in
      by _ _ _ n e (meaning-All x _ ∙ ap every (h (n + 1))) (meaning-All x a))
      (λ x a h n. let e : filled_formula t (Exists x a) n ≡ Exists x (filled_formula t a (n + 1)) = ap (λ k. k n) (fold-Exists (formula_layer t) x a) in
      by _ _ _ n e (meaning-Exists x _ ∙ ap exists (h (n + 1))) (meaning-Exists x a))

  pub instance_says : (f : Formula) → meaning (formula_instance t f) ≡ instance t (meaning f)
  instance_says f = filled_says f 0
