-- An induction over arguments, and what a fold gives for each form.
use Rattle.std.proofs.Common.{◌≡◌, ℕ, List, [], ◌∷◌, map, ap, sym, subst, ◌∙◌}
use Rattle.nj_formula.specs.declared.argument.Argument.{Argument, fold-Argument, fold-roll-Argument, ind-Argument, roll-Argument, map-Argument}
use Rattle.nj_formula.specs.declared.argument.Argument.TheOpen.{Argument-F}
use Rattle.nj_formula.specs.declared.argument.Argument.TheVariants.{Free, Bound, Apply, rolls-Free, rolls-Bound, rolls-Apply}

-- of each of the arguments
abbrev pub Each : (Argument → Type 0) → List Argument → Type 0
Each P [] = Unit {0}
Each P (a ∷ more) = P a × Each P more

module _ {A : Type 0} (step : Argument-F A → A) where
  pub fold-Free : (x : List ℕ) → fold-Argument A step (Free x) ≡ step (Argument-F.Free x)
  fold-Free x = ap (fold-Argument A step) (sym (rolls-Free x)) ∙ fold-roll-Argument A step (Argument-F.Free x)

  pub fold-Bound : (n : ℕ) → fold-Argument A step (Bound n) ≡ step (Argument-F.Bound n)
  fold-Bound n = ap (fold-Argument A step) (sym (rolls-Bound n)) ∙ fold-roll-Argument A step (Argument-F.Bound n)

  pub fold-Apply : (f : List ℕ) (args : List Argument) → fold-Argument A step (Apply f args) ≡ step (Argument-F.Apply f (map (fold-Argument A step) args))
  fold-Apply f args = ap (fold-Argument A step) (sym (rolls-Apply f args)) ∙ fold-roll-Argument A step (Argument-F.Apply f args)

module _ (P : Argument → Type 0) (free : (x : List ℕ) → P (Free x)) (bound : (n : ℕ) → P (Bound n))
    (apply : (f : List ℕ) (args : List Argument) → Each P args → P (Apply f args)) where
  each_paired : (ps : List ((a : Argument) × P a)) → Each P (map (λ e. e.0) ps)
  each_paired [] = tt
  each_paired (p ∷ ps) = (p.1, each_paired ps)

  layer : (y : Argument-F ((a : Argument) × P a)) → P (roll-Argument (map-Argument ((a : Argument) × P a) Argument (λ e. e.0) y))
  layer (Argument-F.Free x) = subst P (sym (rolls-Free x)) (free x)
  layer (Argument-F.Bound n) = subst P (sym (rolls-Bound n)) (bound n)
  layer (Argument-F.Apply f ps) = subst P (sym (rolls-Apply f (map (λ e. e.0) ps))) (apply f (map (λ e. e.0) ps) (each_paired ps))

  pub by_forms : (a : Argument) → P a
  by_forms = ind-Argument P (λ x y is. subst (λ z. P (roll-Argument z)) is (layer y))
