-- A checked proof is a derivation.
use Rattle.std.proofs.Common.{◌≡◌, ℕ, zero, suc, false, List, [], ◌∷◌, ◌++◌, Option, Some, None, Ok, Err, sym, ◌∙◌, ap, subst}
use Rattle.nj_formula.specs.declared.formula.Formula.{Formula}
use Rattle.nj_formula.specs.Meaning.{meaning}
use Rattle.nj_formula.specs.Statement.{Statement}
use Rattle.nj_kernel.specs.Nj.{Nj}
use Rattle.nj_kernel.specs.Nj as N
use Rattle.proof_terms.specs.declared.fault.TermFault.TheVariants.{ProofTooDeep}
use Rattle.proof_terms.specs.declared.term.Term.{Term, out-Term}
use Rattle.theory_ctx.specs.declared.local.Local.{Local}
use Rattle.theory_ctx.specs.Locals.{Scoped, looked_in}
use Rattle.proof_checks.specs.declared.step.Part.{Part}
use Rattle.proof_checks.specs.declared.step.Step.{Step}
use Rattle.proof_checks.specs.declared.step.Step.TheVariants.{Cited, One, Two, Three}
use Rattle.proof_checks.specs.declared.step.Unary.{Unary}
use Rattle.proof_checks.specs.declared.step.Unary.TheVariants.{AllI}
use Rattle.proof_checks.specs.declared.step.Binary.{Binary}
use Rattle.proof_checks.specs.declared.step.Binary.TheVariants.{ExE}
use Rattle.proof_checks.specs.Checks.{Found, and_then, by_one, by_two, by_three, of_part, of_step, step_within, checked_within}
use Rattle.proof_checks.specs.Fits.{FitsOne, Fits, fresh_one, fresh_two}
use Rattle.proof_checks.specs.Scopes.{inside, remaining}
use Rattle.proof_checks.specs.Statements.{is_free_among}
use Rattle.proof_checks.proofs.ProvingLemmas.{fits_of}
use Rattle.proof_checks.proofs.KnownFound.{parted, fresh_found}
use Rattle.proof_checks.proofs.StandLemmas.{one_found, two_found, cited_found}
use Rattle.proof_checks.proofs.KnownStatements.{same_is}
use Rattle.proof_checks.proofs.NjLemmas.{one_nj, two_nj, three_nj}
use Rattle.proof_checks.proofs.KnownFound.{same_found}

-- no name is free where the rule asks for a fresh one
one_fresh : (rule : Unary) (c : Statement) (s t : List Statement) → by_one rule c s ≡ Ok t → (x : List ℕ) → fresh_one rule ≡ Some x → is_free_among x (c ∷ s) ≡ false
unfolding by_one fresh_one
one_fresh (AllI y) c s t e x is =
    let same : y ≡ x = cc in subst (λ z. is_free_among z (c ∷ s) ≡ false) same (fresh_found y (c ∷ s) s t e).0
one_fresh _ c s t e x is = cc

two_fresh : (rule : Binary) (a c : Statement) (s t u : List Statement) → by_two rule a c s t ≡ Ok u → (x : List ℕ) → fresh_two rule ≡ Some x
    → is_free_among x (a ∷ c ∷ t) ≡ false
unfolding by_two fresh_two
two_fresh (ExE y) a c s t u e x is =
    let same : y ≡ x = cc in subst (λ z. is_free_among z (a ∷ c ∷ t) ≡ false) same (fresh_found y (a ∷ c ∷ t) (s ++ t) u e).0
two_fresh _ a c s t u e x is = cc

-- the premise's own assumption is discharged only where no name is to be fresh
one_free : (rule : Unary) (own : Option Local) (a : List Statement) (p c : Statement) → FitsOne rule own p c
    → ((x : List ℕ) → fresh_one rule ≡ Some x → is_free_among x (c ∷ remaining own a) ≡ false) → (x : List ℕ) → fresh_one rule ≡ Some x → is_free_among x (c ∷ a) ≡ false
unfolding FitsOne fresh_one
one_free rule None a p c fits fresh = fresh
one_free (AllI y) (Some own) a p c fits fresh = absurd fits
one_free _ (Some own) a p c fits fresh = λ x is. cc

abbrev Derives : (Term → Formula → Scoped → Found) → Type 0
Derives sub = (t : Term) (goal : Formula) (scope : Scoped) (s : List Statement) → sub t goal scope ≡ Ok s → Nj s (meaning goal)

module _ (sub : Term → Formula → Scoped → Found) (derives : Derives sub) (scope : Scoped) where
  -- what a part's proof assumes, with its own assumption
  within : (p : Part) (s : List Statement) → of_part sub scope p ≡ Ok s → (a : List Statement) × (remaining p.own a ≡ s) × Nj a (meaning p.goal)
  within p s e =
      let w = parted (sub p.term p.goal (inside p.own scope)) (λ t. Ok (remaining p.own t)) s e in
      (w.0, same_found w.2, derives p.term p.goal (inside p.own scope) w.0 w.1)

  step_nj : (goal : Formula) (step : Step) (s : List Statement) → Fits step (meaning goal) → of_step sub scope goal step ≡ Ok s → Nj s (meaning goal)
  unfolding of_step Fits
  step_nj goal (Cited c) s fits e =
      let w = cited_found c.name goal (looked_in scope c.name) s e in
      subst (λ t. Nj t (meaning goal)) w.5 (subst (Nj (meaning w.2 ∷ [])) (same_is (meaning w.2) (meaning goal) w.4) N.assume)
  step_nj goal (One rule p) s fits e =
      let c = meaning goal in
      let w = parted (of_part sub scope p) (by_one rule c) s e in
      let i = within p w.0 w.1 in
      let e2 : by_one rule c (remaining p.own i.0) ≡ Ok s = subst (λ t. by_one rule c t ≡ Ok s) (sym i.1) w.2 in
      subst (λ t. Nj t c) (one_found rule c (remaining p.own i.0) s e2)
      (one_nj rule p.own i.0 (meaning p.goal) c fits (one_free rule p.own i.0 (meaning p.goal) c fits (one_fresh rule c (remaining p.own i.0) s e2)) i.2)
  step_nj goal (Two rule p q) s fits e =
      let c = meaning goal in
      let w = parted (of_part sub scope p) (λ k. and_then (of_part sub scope q) (by_two rule (meaning p.goal) c k)) s e in
      let v = parted (of_part sub scope q) (by_two rule (meaning p.goal) c w.0) s w.2 in
      let i = within p w.0 w.1 in
      let j = within q v.0 v.1 in
      let a = remaining p.own i.0 in
      let b = remaining q.own j.0 in
      let e2 : by_two rule (meaning p.goal) c a b ≡ Ok s =
      subst (λ t. by_two rule (meaning p.goal) c t b ≡ Ok s) (sym i.1) (subst (λ t. by_two rule (meaning p.goal) c w.0 t ≡ Ok s) (sym j.1) v.2) in
      subst (λ t. Nj t c) (two_found rule (meaning p.goal) c a b s e2)
      (two_nj rule p.own q.own i.0 j.0 (meaning p.goal) (meaning q.goal) c fits (two_fresh rule (meaning p.goal) c a b s e2) i.2 j.2)
  step_nj goal (Three p q r) s fits e =
      let c = meaning goal in
      let w = parted (of_part sub scope p) (λ k. and_then (of_part sub scope q) (λ t. and_then (of_part sub scope r) (by_three k t))) s e in
      let v = parted (of_part sub scope q) (λ t. and_then (of_part sub scope r) (by_three w.0 t)) s w.2 in
      let u = parted (of_part sub scope r) (by_three w.0 v.0) s v.2 in
      let i = within p w.0 w.1 in
      let j = within q v.0 v.1 in
      let k = within r u.0 u.1 in
      let joined_is : remaining p.own i.0 ++ remaining q.own j.0 ++ remaining r.own k.0 ≡ w.0 ++ v.0 ++ u.0 =
      ap (λ x. x ++ remaining q.own j.0 ++ remaining r.own k.0) i.1 ∙ (ap (λ x. w.0 ++ x ++ remaining r.own k.0) j.1 ∙ ap (λ x. w.0 ++ v.0 ++ x) k.1) in
      subst (λ t. Nj t c) (joined_is ∙ same_found u.2)
      (three_nj p.own q.own r.own i.0 j.0 k.0 (meaning p.goal) (meaning q.goal) (meaning r.goal) c fits i.2 j.2 k.2)

none_derives : Derives (λ _ _ _. Err ProofTooDeep)
none_derives t goal scope s e = cc

pub checked_nj : (n : ℕ) → Derives (checked_within n)
unfolding checked_within
checked_nj zero t goal scope s e =
    let w = parted (step_within zero (out-Term t) goal) (of_step (λ _ _ _. Err ProofTooDeep) scope goal) s e in
    step_nj (λ _ _ _. Err ProofTooDeep) none_derives scope goal w.0 s (fits_of zero (out-Term t) goal w.0 w.1) w.2
checked_nj (suc n) t goal scope s e =
    let w = parted (step_within (suc n) (out-Term t) goal) (of_step (checked_within n) scope goal) s e in
    step_nj (checked_within n) (checked_nj n) scope goal w.0 s (fits_of (suc n) (out-Term t) goal w.0 w.1) w.2
