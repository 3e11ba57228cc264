-- What a term comes to, as its parts are proved.
use Rattle.std.proofs.Common.{◌≡◌, ◌-◌, ℕ, zero, suc, List, Result, Ok, Err, ◌∙◌, subst, arith}
use Rattle.nj_formula.specs.declared.formula.Formula.{Formula}
use Rattle.nj_formula.specs.Meaning.{meaning}
use Rattle.nj_formula.specs.Statement.{Statement}
use Rattle.proof_terms.specs.declared.fault.TermFault.{TermFault}
use Rattle.proof_terms.specs.declared.fault.TermFault.TheVariants.{ProofTooDeep}
use Rattle.proof_terms.specs.declared.term.Term.{Term, out-Term}
use Rattle.proof_terms.specs.declared.term.Term.TheOpen.{Term-F}
use Rattle.theory_ctx.specs.Locals.{Scoped}
use Rattle.proof_checks.specs.declared.halt.Halt.{Halt}
use Rattle.proof_checks.specs.declared.halt.Halt.TheVariants.{Wrong, Stopped, NoMemory}
use Rattle.proof_checks.specs.declared.step.Part.{Part}
use Rattle.proof_checks.specs.declared.step.Step.{Step}
use Rattle.proof_checks.specs.declared.step.Step.TheVariants.{Cited, One, Two, Three}
use Rattle.proof_checks.specs.declared.step.Binary.{Binary}
use Rattle.proof_checks.specs.Answers.{Gives, Enters}
use Rattle.proof_checks.specs.Checks.{Found, and_then, by_two, by_three, of_part, of_step, step_within, checked_within}
use Rattle.proof_checks.specs.Fits.{Fits, IsWithin}
use Rattle.proof_checks.specs.Rows.{Planned}
use Rattle.proof_checks.specs.Scopes.{remaining}
use Rattle.proof_checks.proofs.FitLemmas.{step_fits}
use Rattle.proof_checks.proofs.KnownFound.{same_step, then_ok, then_err, after_one, at, part_ok, second, third}

-- where a step is taken, its parts are checked in one rule less
pub checked_is : (left : ℕ) (t : Term) (goal : Formula) (scope : Scoped) (step : Step) → step_within left (out-Term t) goal ≡ Ok step → IsWithin step left
    → checked_within left t goal scope ≡ of_step (checked_within (left - 1)) scope goal step
unfolding checked_within of_step
checked_is zero t goal scope (Cited c) e deep = then_ok (of_step (λ _ _ _. Err ProofTooDeep) scope goal) e
checked_is zero t goal scope (One rule p) e deep = absurd (omega arith)
checked_is zero t goal scope (Two rule p q) e deep = absurd (omega arith)
checked_is zero t goal scope (Three p q r) e deep = absurd (omega arith)
checked_is (suc n) t goal scope step e deep =
    let one_less : n ≡ suc n - 1 = omega arith in
    subst (λ k. checked_within (suc n) t goal scope ≡ of_step (checked_within k) scope goal step) one_less (then_ok (of_step (checked_within n) scope goal) e)

pub checked_err : (left : ℕ) (t : Term) (goal : Formula) (scope : Scoped) (f : TermFault) → step_within left (out-Term t) goal ≡ Err f → checked_within left t goal scope ≡ Err f
unfolding checked_within
checked_err zero t goal scope f e = then_err (of_step (λ _ _ _. Err ProofTooDeep) scope goal) e
checked_err (suc n) t goal scope f e = then_err (of_step (checked_within n) scope goal) e

within_suc : (step : Step) (n : ℕ) → IsWithin step (suc n)
within_suc (Cited c) n = tt
within_suc (One rule p) n = omega arith
within_suc (Two rule p q) n = omega arith
within_suc (Three p q r) n = omega arith

pub within_of : (left : ℕ) (l : Term-F Term) (goal : Formula) (step : Step) → step_within left l goal ≡ Ok step → IsWithin step left
unfolding step_within
within_of zero (Term-F.Fact c) goal step e = subst (λ s. IsWithin s zero) (same_step e) tt
within_of zero _ goal step e = cc
within_of (suc n) l goal step e = within_suc step n

pub fits_of : (left : ℕ) (l : Term-F Term) (goal : Formula) (step : Step) → step_within left l goal ≡ Ok step → Fits step (meaning goal)
unfolding step_within Fits
fits_of zero (Term-F.Fact c) goal step e = subst (λ s. Fits s (meaning goal)) (same_step e) tt
fits_of zero _ goal step e = cc
fits_of (suc n) l goal step e = step_fits l goal step e

-- an ended check is the fault that it tells
pub entered_halt : (h : Halt) (planned : Planned) (whole : Found) (c : Statement) → Enters (Err h) planned → ((f : TermFault) → planned ≡ Err f → whole ≡ Err f) → Gives (Err h) whole c
entered_halt (Wrong f) planned whole c told next = next f told
entered_halt Stopped planned whole c told next = tt
entered_halt NoMemory planned whole c told next = tt

module _ (sub : Term → Formula → Scoped → Found) (scope : Scoped) where
  part_err : (p : Part) (f : TermFault) → at sub scope p ≡ Err f → of_part sub scope p ≡ Err f
  part_err p f e = then_err (λ s. Ok (remaining p.own s)) e

  module _ (goal : Formula) where
    pub two_first : (rule : Binary) (p q : Part) (f : TermFault) → at sub scope p ≡ Err f → of_step sub scope goal (Two rule p q) ≡ Err f
    unfolding of_step
    two_first rule p q f e = then_err (after_one sub scope goal rule p q) (part_err p f e)

    pub two_next : (rule : Binary) (p q : Part) (s : List Statement) → at sub scope p ≡ Ok s
        → of_step sub scope goal (Two rule p q) ≡ and_then (of_part sub scope q) (by_two rule (meaning p.goal) (meaning goal) (remaining p.own s))
    unfolding of_step
    two_next rule p q s e = then_ok (after_one sub scope goal rule p q) (part_ok sub scope p s e)

    pub three_first : (p q r : Part) (f : TermFault) → at sub scope p ≡ Err f → of_step sub scope goal (Three p q r) ≡ Err f
    unfolding of_step
    three_first p q r f e = then_err (second sub scope q r) (part_err p f e)

    pub three_second : (p q r : Part) (s : List Statement) (f : TermFault) → at sub scope p ≡ Ok s → at sub scope q ≡ Err f → of_step sub scope goal (Three p q r) ≡ Err f
    unfolding of_step
    three_second p q r s f e h = then_ok (second sub scope q r) (part_ok sub scope p s e) ∙ then_err (third sub scope r (remaining p.own s)) (part_err q f h)

    pub three_next : (p q r : Part) (s t : List Statement) → at sub scope p ≡ Ok s → at sub scope q ≡ Ok t
        → of_step sub scope goal (Three p q r) ≡ and_then (of_part sub scope r) (by_three (remaining p.own s) (remaining q.own t))
    unfolding of_step
    three_next p q r s t e h = then_ok (second sub scope q r) (part_ok sub scope p s e) ∙ then_ok (third sub scope r (remaining p.own s)) (part_ok sub scope q t h)
