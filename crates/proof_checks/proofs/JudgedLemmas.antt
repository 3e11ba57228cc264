-- How many rules of a term are judged, by what it comes to.
use Rattle.std.proofs.Common.{◌≡◌, ◌≢◌, ◌≤◌, ◌+◌, ◌-◌, ◌∙◌, ℕ, zero, suc, Result, Ok, Err, refl, sym, ap, subst, arith}
use Rattle.pide_base.specs.Faults.{risen}
use Rattle.pide_base.specs.Questions.{risen_by}
use Rattle.nj_formula.specs.declared.formula.Formula.{Formula}
use Rattle.nj_formula.specs.Meaning.{meaning}
use Rattle.nj_kernel.specs.declared.thm.Thm.{Thm}
use Rattle.theory_ctx.specs.Locals.{Scoped}
use Rattle.proof_terms.specs.declared.fault.TermFault.{TermFault}
use Rattle.proof_terms.specs.declared.term.Cite.{Cite}
use Rattle.proof_terms.specs.declared.term.Term.{Term, out-Term, roll-Term, roll-out-Term}
use Rattle.proof_terms.specs.declared.term.Term.TheVariants.{Fact, rolls-Fact}
use Rattle.proof_terms.specs.declared.term.Term.TheOpen.{Term-F}
use Rattle.proof_checks.specs.declared.halt.Halt.{Halt}
use Rattle.proof_checks.specs.declared.halt.Halt.TheVariants.{Wrong, Stopped, NoMemory}
use Rattle.proof_checks.specs.declared.step.Step.{Step}
use Rattle.proof_checks.specs.declared.step.Step.TheVariants.{Cited}
use Rattle.proof_checks.specs.Answers.{Enters}
use Rattle.proof_checks.specs.Checks.{step_within, checked_within}
use Rattle.proof_checks.specs.Fits.{IsWithin}
use Rattle.proof_checks.specs.Questions.{rules_at, rules_in_parts, rules_in_plan, judged_within, AskedEach}
use Rattle.proof_checks.proofs.EnterLemmas.{out-Fact, cited_within, too_deep}
use Rattle.proof_checks.proofs.ProvingLemmas.{within_of}
use Rattle.proof_checks.proofs.QuestionLemmas.{each_of, each_then}

rule_layer : (l : Term-F Term) → ((c : Cite) → l ≡ Term-F.Fact c → ⊥) → rules_at l ≡ 1
rule_layer (Term-F.Fact c) other = absurd (other c refl)
rule_layer _ other = refl

own_rule : (t : Term) → ((c : Cite) → t ≡ Fact c → ⊥) → rules_at (out-Term t) ≡ 1
own_rule t other = rule_layer (out-Term t) (λ c e. other c (sym (roll-out-Term t) ∙ (ap roll-Term e ∙ rolls-Fact c)))

-- a cited name has no rule
pub fact_judged : (left : ℕ) (t : Term) (goal : Formula) (scope : Scoped) (c : Cite) → t ≡ Fact c → judged_within left t goal scope ≡ 0
unfolding judged_within rules_in_parts
fact_judged zero t goal scope c is = ap rules_at (out-Fact t c is)
fact_judged (suc n) t goal scope c is =
    let own : rules_at (out-Term t) ≡ 0 = ap rules_at (out-Fact t c is) in
    let parts : rules_in_plan (step_within (suc n) (out-Term t) goal) (rules_in_parts (checked_within n) (judged_within n) scope) ≡ 0 =
    ap (λ w. rules_in_plan w (rules_in_parts (checked_within n) (judged_within n) scope)) (cited_within (suc n) t goal c is) in
    omega (arith, own, parts)

module _ (t : Term) (goal : Formula) (scope : Scoped) (other : (c : Cite) → t ≡ Fact c → ⊥) where
  -- a rule and those of its parts
  pub rule_judged : (left : ℕ) (step : Step) → step_within left (out-Term t) goal ≡ Ok step
      → judged_within left t goal scope ≡ 1 + rules_in_parts (checked_within (left - 1)) (judged_within (left - 1)) scope step
  unfolding judged_within
  rule_judged zero step e = let deep = too_deep zero t goal refl other in absurd (cc)
  rule_judged (suc n) step e =
      let one_less : n ≡ suc n - 1 = omega arith in
      let own = own_rule t other in
      let parts = ap (λ w. rules_in_plan w (rules_in_parts (checked_within n) (judged_within n) scope)) e in
      subst (λ k. judged_within (suc n) t goal scope ≡ 1 + rules_in_parts (checked_within k) (judged_within k) scope step) one_less (omega (arith, own, parts))

  -- a rule that doesn't fit
  pub fault_judged : (left : ℕ) (f : TermFault) → step_within left (out-Term t) goal ≡ Err f → judged_within left t goal scope ≡ 1
  unfolding judged_within
  fault_judged zero f e = own_rule t other
  fault_judged (suc n) f e =
      let own = own_rule t other in
      let parts : rules_in_plan (step_within (suc n) (out-Term t) goal) (rules_in_parts (checked_within n) (judged_within n) scope) ≡ 0 =
      ap (λ w. rules_in_plan w (rules_in_parts (checked_within n) (judged_within n) scope)) e in
      omega (arith, own, parts)

  some_judged : (left : ℕ) → 1 ≤ judged_within left t goal scope
  unfolding judged_within
  some_judged zero = let own = own_rule t other in omega (arith, own)
  some_judged (suc n) = let own = own_rule t other in omega (arith, own)

  module _ (left before now : ℕ) (once : now ≡ risen before) where
    entered_each : (h : Halt) → Enters (Err h) (step_within left (out-Term t) goal) → AskedEach (Err h) (judged_within left t goal scope) before now
    entered_each (Wrong f) told = subst (λ k. now ≡ risen_by k before) (sym (fault_judged left f told)) once
    entered_each Stopped told = (1, some_judged left, once)
    entered_each NoMemory told = tt

    -- a rule that isn't taken
    pub entered_asks : (entered : Result Step Halt) (result : Result Thm Halt) (h : Halt) → entered ≡ Err h → result ≡ Err h
        → Enters entered (step_within left (out-Term t) goal) → AskedEach result (judged_within left t goal scope) before now
    entered_asks entered result h is out told =
        subst (λ r. AskedEach r (judged_within left t goal scope) before now) (sym out)
        (entered_each h (subst (λ r. Enters r (step_within left (out-Term t) goal)) is told))

    -- a rule, and then its parts
    pub stepped_asks : (step got : Step) (result : Result Thm Halt) (last : ℕ) → got ≡ step → step_within left (out-Term t) goal ≡ Ok step
        → AskedEach result (rules_in_parts (checked_within (left - 1)) (judged_within (left - 1)) scope got) now last
        → AskedEach result (judged_within left t goal scope) before last
    stepped_asks step got result last same e told =
        let parts = rules_in_parts (checked_within (left - 1)) (judged_within (left - 1)) scope in
        subst (λ k. AskedEach result k before last) (sym (rule_judged left step e))
        (each_then result 1 (parts step) before now last once (subst (λ s. AskedEach result (parts s) now last) same told))

-- a name is cited without a question
pub fact_asks : (left : ℕ) (t : Term) (goal : Formula) (scope : Scoped) (c : Cite) (result : Result Thm Halt) (now : ℕ) → t ≡ Fact c
    → AskedEach result (judged_within left t goal scope) now now
fact_asks left t goal scope c result now is = subst (λ k. AskedEach result k now now) (sym (fact_judged left t goal scope c is)) (each_of result 0 now now refl)
