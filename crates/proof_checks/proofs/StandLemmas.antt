-- All that a checked proof assumes stands in its scope.
use Rattle.std.proofs.Common.{◌≡◌, ◌⊎◌, ℕ, zero, suc, Bool, true, false, cond, List, [], ◌∷◌, ◌++◌, Option, Some, None, Result, Ok, Err, refl, sym, ◌∙◌, ap, subst, inl, inr, ⊎_elim}
use Rattle.nj_formula.specs.declared.formula.Formula.{Formula}
use Rattle.nj_formula.specs.Meaning.{meaning}
use Rattle.nj_formula.specs.Statement.{Statement}
use Rattle.nj_kernel.specs.Sets.{members}
use Rattle.proof_terms.specs.declared.fault.TermFault.{TermFault}
use Rattle.proof_terms.specs.declared.fault.TermFault.TheVariants.{ProofTooDeep, ProvesAnother, NotFresh}
use Rattle.proof_terms.specs.declared.term.Term.{Term, out-Term}
use Rattle.theory_ctx.specs.declared.local.Local.{Local}
use Rattle.theory_ctx.specs.Answers.{Answer, found, unknown, ambiguous}
use Rattle.theory_ctx.specs.Locals.{Scoped, looked_in}
use Rattle.proof_checks.specs.declared.step.Part.{Part}
use Rattle.proof_checks.specs.declared.step.Step.{Step}
use Rattle.proof_checks.specs.declared.step.Step.TheVariants.{Cited, One, Two, Three}
use Rattle.proof_checks.specs.declared.step.Unary.{Unary}
use Rattle.proof_checks.specs.declared.step.Unary.TheVariants.{AllI}
use Rattle.proof_checks.specs.declared.step.Binary.{Binary}
use Rattle.proof_checks.specs.declared.step.Binary.TheVariants.{ExE}
use Rattle.proof_checks.specs.Checks.{Found, and_then, cited, if_fresh, by_one, by_two, by_three, of_part, of_step, step_within, checked_within}
use Rattle.proof_checks.specs.Scopes.{inside, remaining, Stands}
use Rattle.proof_checks.specs.Statements.{is_same, is_free_among}
use Rattle.proof_state.proofs.KnownSets.{in_either}
use Rattle.proof_checks.proofs.KnownStatements.{lists_without}
use Rattle.proof_checks.proofs.LookLemmas.{looked_stands}
use Rattle.proof_checks.proofs.KnownFound.{same_found, parted, fresh_found}

-- a rule that is found assumes what its parts do
pub one_found : (rule : Unary) (c : Statement) (s t : List Statement) → by_one rule c s ≡ Ok t → s ≡ t
unfolding by_one
one_found (AllI x) c s t e = (fresh_found x (c ∷ s) s t e).1
one_found _ c s t e = same_found e

pub two_found : (rule : Binary) (a c : Statement) (s t u : List Statement) → by_two rule a c s t ≡ Ok u → s ++ t ≡ u
unfolding by_two
two_found (ExE x) a c s t u e = (fresh_found x (a ∷ c ∷ t) (s ++ t) u e).1
two_found _ a c s t u e = same_found e

pub cited_found : (name : List ℕ) (goal : Formula) (answer : Answer) (s : List Statement) → cited name goal answer ≡ Ok s
    → (t : Option (List ℕ)) × (n : List ℕ) × (f : Formula) × (answer ≡ found t n f) × (is_same (meaning f) (meaning goal) ≡ true) × (meaning f ∷ [] ≡ s)
cited_found name goal (found t n f) s e = by (is_same (meaning f) (meaning goal)) refl
  where
    by : (b : Bool) → is_same (meaning f) (meaning goal) ≡ b
        → (u : Option (List ℕ)) × (m : List ℕ) × (g : Formula) × (found t n f ≡ found u m g) × (is_same (meaning g) (meaning goal) ≡ true) × (meaning g ∷ [] ≡ s)
    by true is = (t, n, f, refl, is, same_found (sym (ap (λ b. cond b (Ok (meaning f ∷ [])) (Err (ProvesAnother name))) is) ∙ e))
    by false is = let wrong : ◌≡◌ {A = Found} (Err (ProvesAnother name)) (Ok s) = sym (ap (λ b. cond b (Ok (meaning f ∷ [])) (Err (ProvesAnother name))) is) ∙ e in cc
cited_found name goal unknown s e = cc
cited_found name goal (ambiguous a b) s e = cc

-- all that is found to be assumed stands in the scope
abbrev AllStand : (Term → Formula → Scoped → Found) → Type 0
AllStand sub = (t : Term) (goal : Formula) (scope : Scoped) (s : List Statement) → sub t goal scope ≡ Ok s → (a : Statement) → members s a → Stands scope a

left_stand : (scope : Scoped) (own : Option Local) (s : List Statement) (a : Statement) → ((b : Statement) → members s b → Stands (inside own scope) b)
    → members (remaining own s) a → Stands scope a
left_stand scope None s a all m = all a m
left_stand scope (Some own) s a all m =
    let kept = (lists_without (meaning own.formula) s a).0 m in
    ⊎_elim (λ k. ⊎_elim (λ e. absurd (kept.1 (sym e))) (λ n. inl n) k) (λ k. inr k) (all a kept.0)

module _ (sub : Term → Formula → Scoped → Found) (all : AllStand sub) (scope : Scoped) where
  part_stand : (p : Part) (s : List Statement) → of_part sub scope p ≡ Ok s → (a : Statement) → members s a → Stands scope a
  part_stand p s e a m =
      let w = parted (sub p.term p.goal (inside p.own scope)) (λ t. Ok (remaining p.own t)) s e in
      left_stand scope p.own w.0 a (all p.term p.goal (inside p.own scope) w.0 w.1) (subst (λ t. members t a) (sym (same_found w.2)) m)

  step_stand : (goal : Formula) (step : Step) (s : List Statement) → of_step sub scope goal step ≡ Ok s → (a : Statement) → members s a → Stands scope a
  unfolding of_step
  step_stand goal (Cited c) s e a m =
      let w = cited_found c.name goal (looked_in scope c.name) s e in
      ⊎_elim (λ is. subst (Stands scope) is (looked_stands scope c.name w.0 w.1 w.2 w.3)) (λ n. elim n [ ]) (subst (λ t. members t a) (sym w.5) m)
  step_stand goal (One rule p) s e a m =
      let w = parted (of_part sub scope p) (by_one rule (meaning goal)) s e in
      part_stand p w.0 w.1 a (subst (λ t. members t a) (sym (one_found rule (meaning goal) w.0 s w.2)) m)
  step_stand goal (Two rule p q) s e a m =
      let w = parted (of_part sub scope p) (λ k. and_then (of_part sub scope q) (by_two rule (meaning p.goal) (meaning goal) k)) s e in
      let v = parted (of_part sub scope q) (by_two rule (meaning p.goal) (meaning goal) w.0) s w.2 in
      ⊎_elim (part_stand p w.0 w.1 a) (part_stand q v.0 v.1 a)
      (in_either w.0 v.0 a (subst (λ t. members t a) (sym (two_found rule (meaning p.goal) (meaning goal) w.0 v.0 s v.2)) m))
  step_stand goal (Three p q r) s e a m =
      let w = parted (of_part sub scope p) (λ k. and_then (of_part sub scope q) (λ t. and_then (of_part sub scope r) (by_three k t))) s e in
      let v = parted (of_part sub scope q) (λ t. and_then (of_part sub scope r) (by_three w.0 t)) s w.2 in
      let u = parted (of_part sub scope r) (by_three w.0 v.0) s v.2 in
      ⊎_elim (λ k. ⊎_elim (part_stand p w.0 w.1 a) (part_stand q v.0 v.1 a) (in_either w.0 v.0 a k)) (part_stand r u.0 u.1 a)
      (in_either (w.0 ++ v.0) u.0 a (subst (λ t. members t a) (sym (same_found u.2)) m))

none_stand : AllStand (λ _ _ _. Err ProofTooDeep)
none_stand t goal scope s e = cc

pub stand : (n : ℕ) → AllStand (checked_within n)
unfolding checked_within
stand zero t goal scope s e a m =
    let w = parted (step_within zero (out-Term t) goal) (of_step (λ _ _ _. Err ProofTooDeep) scope goal) s e in
    step_stand (λ _ _ _. Err ProofTooDeep) none_stand scope goal w.0 s w.2 a m
stand (suc n) t goal scope s e a m =
    let w = parted (step_within (suc n) (out-Term t) goal) (of_step (checked_within n) scope goal) s e in
    step_stand (checked_within n) (stand n) scope goal w.0 s w.2 a m
