-- The subgoals of a goal are enough for it, by the introduction rules.
use Rattle.std.proofs.Common.{◌≡◌, ℕ, Bool, true, false, List, [], ◌∷◌, sym, subst, ap, ◌∙◌}
use Rattle.nj_formula.specs.declared.formula.Formula.{Formula, out-Formula, out-roll-Formula}
use Rattle.nj_formula.specs.declared.formula.Formula.TheOpen.{Formula-F}
use Rattle.nj_formula.specs.declared.formula.Formula.TheVariants.{False, Atom, Not, And, Or, Implies, All, Exists, rolls-False, rolls-Atom, rolls-Not, rolls-And, rolls-Or, rolls-Implies, rolls-All, rolls-Exists}
use Rattle.nj_formula.specs.Statement.{Statement}
use Rattle.nj_formula.specs.Meaning.{meaning}
use Rattle.nj_formula.proofs.KnownFormulas.{formula_by_forms}
use Rattle.nj_formula.proofs.KnownMeaning.{meaning-False, meaning-Not, meaning-And, meaning-Implies, meaning-All}
use Rattle.nj_kernel.specs.Sets.{members, ◌∪◌}
use Rattle.shared_map.specs.Pairs.{Each}
use Rattle.proof_state.specs.declared.subgoal.Subgoal.{Subgoal}
use Rattle.proof_state.specs.declared.subgoal.Subgoal.TheVariants.{Show, AssumeShow, FixShow}
use Rattle.proof_state.specs.Subgoals.{introduced, subgoals_of}
use Rattle.proof_state.specs.Follows.{Follows}
use Rattle.proof_state.specs.Worth.{Holds, IsPartOf}
use Rattle.proof_state.proofs.KnownFollows.{imp_follows, not_follows, and_follows}

module _ (P : Statement → Type 0) where
  abbrev Enter : Formula → List Subgoal → Type 0
  Enter goal subgoals = (Each (Holds P) subgoals → Follows P (meaning goal)) × Each (IsPartOf goal) subgoals

  itself_enough : (goal : Formula) → Enter goal (Show goal ∷ [])
  itself_enough goal = (λ each. each.0, (tt, tt))

  abbrev ByRule : Formula → Type 0
  ByRule goal = Enter goal (introduced goal (out-Formula goal))

  -- a goal of this layer
  layered : (goal : Formula) (layer : Formula-F Formula) → out-Formula goal ≡ layer → Enter goal (introduced goal layer) → ByRule goal
  layered goal layer is enter = subst (λ l. Enter goal (introduced goal l)) (sym is) enter

  by_rule : (goal : Formula) → ByRule goal
  by_rule = formula_by_forms ByRule
      (layered False Formula-F.False (ap out-Formula (sym rolls-False) ∙ out-roll-Formula Formula-F.False) (itself_enough False))
      (λ p args. layered (Atom p args) (Formula-F.Atom p args) (ap out-Formula (sym (rolls-Atom p args)) ∙ out-roll-Formula (Formula-F.Atom p args)) (itself_enough (Atom p args)))
      (λ a _. layered (Not a) (Formula-F.Not a) (ap out-Formula (sym (rolls-Not a)) ∙ out-roll-Formula (Formula-F.Not a)) (negation a))
      (λ a b _ _. layered (And a b) (Formula-F.And a b) (ap out-Formula (sym (rolls-And a b)) ∙ out-roll-Formula (Formula-F.And a b)) (conjunction a b))
      (λ a b _ _. layered (Or a b) (Formula-F.Or a b) (ap out-Formula (sym (rolls-Or a b)) ∙ out-roll-Formula (Formula-F.Or a b)) (itself_enough (Or a b)))
      (λ a b _ _. layered (Implies a b) (Formula-F.Implies a b) (ap out-Formula (sym (rolls-Implies a b)) ∙ out-roll-Formula (Formula-F.Implies a b)) (implication a b))
      (λ x p _. layered (All x p) (Formula-F.All x p) (ap out-Formula (sym (rolls-All x p)) ∙ out-roll-Formula (Formula-F.All x p)) (quantified x p))
      (λ x p _. layered (Exists x p) (Formula-F.Exists x p) (ap out-Formula (sym (rolls-Exists x p)) ∙ out-roll-Formula (Formula-F.Exists x p)) (itself_enough (Exists x p)))
    where
      negation : (a : Formula) → Enter (Not a) (AssumeShow a False ∷ [])
      negation a = (
        λ each. subst (Follows P) (sym (meaning-Not a)) (not_follows P (meaning a) (subst (Follows (P ∪ members (meaning a ∷ []))) meaning-False each.0)),
        (tt, tt),
      )

      conjunction : (a b : Formula) → Enter (And a b) (Show a ∷ Show b ∷ [])
      conjunction a b = (
        λ each. subst (Follows P) (sym (meaning-And a b)) (and_follows P (meaning a) (meaning b) each.0 each.1.0),
        (tt, (tt, tt)),
      )

      implication : (a b : Formula) → Enter (Implies a b) (AssumeShow a b ∷ [])
      implication a b = (
        λ each. subst (Follows P) (sym (meaning-Implies a b)) (imp_follows P (meaning a) (meaning b) each.0),
        (tt, tt),
      )

      quantified : (x : List ℕ) (p : Formula) → Enter (All x p) (FixShow x p ∷ [])
      quantified x p = (λ each. subst (Follows P) (sym (meaning-All x p)) each.0, (meaning-All x p, tt))

  -- after `proof -` and after `proof`
  pub subgoals_enter : (dash : Bool) (goal : Formula) → Enter goal (subgoals_of dash goal)
  subgoals_enter true goal = itself_enough goal
  subgoals_enter false goal = by_rule goal
