-- What a term comes to, by what is told of its rule.
use Rattle.std.proofs.Common.{◌≡◌, ◌<◌, ℕ, zero, suc, Result, Ok, Err, IfOk, refl, sym, ◌∙◌, ap, subst, arith}
use Rattle.nj_formula.specs.declared.formula.Formula.{Formula}
use Rattle.nj_formula.specs.Meaning.{meaning}
use Rattle.proof_terms.specs.declared.fault.TermFault.TheVariants.{ProofTooDeep}
use Rattle.proof_terms.specs.declared.term.Cite.{Cite}
use Rattle.proof_terms.specs.declared.term.Term.{Term, out-Term, roll-Term, out-roll-Term, roll-out-Term}
use Rattle.proof_terms.specs.declared.term.Term.TheVariants.{Fact, rolls-Fact}
use Rattle.proof_terms.specs.declared.term.Term.TheOpen.{Term-F}
use Rattle.proof_checks.specs.declared.halt.Halt.{Halt}
use Rattle.proof_checks.specs.declared.halt.Halt.TheVariants.{Wrong, Stopped, NoMemory}
use Rattle.proof_checks.specs.declared.step.Step.{Step}
use Rattle.proof_checks.specs.declared.step.Step.TheVariants.{Cited}
use Rattle.proof_checks.specs.Answers.{Plans, Enters, Asked}
use Rattle.proof_checks.specs.Checks.{step_within}
use Rattle.proof_checks.specs.Fits.{Fits, IsWithin}
use Rattle.proof_checks.specs.Rows.{Planned, step_of}
use Rattle.proof_checks.proofs.FitLemmas.{step_fits}
use Rattle.proof_checks.proofs.ProvingLemmas.{within_of}

pub out-Fact : (t : Term) (c : Cite) → t ≡ Fact c → out-Term t ≡ Term-F.Fact c
out-Fact t c is = ap out-Term (is ∙ sym (rolls-Fact c)) ∙ out-roll-Term (Term-F.Fact c)

cited_layer : (left : ℕ) (c : Cite) (goal : Formula) → step_within left (Term-F.Fact c) goal ≡ Ok (Cited c)
unfolding step_within step_of
cited_layer zero c goal = refl
cited_layer (suc n) c goal = refl

-- a name is cited however many rules are left
pub cited_within : (left : ℕ) (t : Term) (goal : Formula) (c : Cite) → t ≡ Fact c → step_within left (out-Term t) goal ≡ Ok (Cited c)
cited_within left t goal c is = subst (λ l. step_within left l goal ≡ Ok (Cited c)) (sym (out-Fact t c is)) (cited_layer left c goal)

rule_within : (left : ℕ) (t : Term) (goal : Formula) → 0 < left → step_within left (out-Term t) goal ≡ step_of (out-Term t) goal
unfolding step_within
rule_within zero t goal some = absurd (omega arith)
rule_within (suc n) t goal some = refl

deep_layer : (l : Term-F Term) (goal : Formula) → ((c : Cite) → l ≡ Term-F.Fact c → ⊥) → step_within zero l goal ≡ Err ProofTooDeep
unfolding step_within
deep_layer (Term-F.Fact c) goal other = absurd (other c refl)
deep_layer _ goal other = refl

pub too_deep : (left : ℕ) (t : Term) (goal : Formula) → left ≡ 0 → ((c : Cite) → t ≡ Fact c → ⊥) → step_within left (out-Term t) goal ≡ Err ProofTooDeep
too_deep left t goal none other =
    subst (λ k. step_within k (out-Term t) goal ≡ Err ProofTooDeep) (sym none)
    (deep_layer (out-Term t) goal (λ c e. other c (sym (roll-out-Term t) ∙ (ap roll-Term e ∙ rolls-Fact c))))

plans_enters : (result : Result Step Halt) (planned : Planned) → Plans result planned → Enters result planned
plans_enters (Ok step) planned h = h
plans_enters (Err (Wrong f)) planned h = h
plans_enters (Err Stopped) planned h = tt
plans_enters (Err NoMemory) planned h = tt

pub plans_asks : (result : Result Step Halt) (planned : Planned) (before now : ℕ) → Plans result planned → now ≡ before → Asked result before now
plans_asks (Ok step) planned before now h same = same
plans_asks (Err (Wrong f)) planned before now h same = same
plans_asks (Err Stopped) planned before now h same = absurd h
plans_asks (Err NoMemory) planned before now h same = same

pub enters_within : (left : ℕ) (l : Term-F Term) (goal : Formula) (result : Result Step Halt) → Enters result (step_within left l goal) → IfOk result (λ step. IsWithin step left)
enters_within left l goal (Ok step) h = within_of left l goal step h
enters_within left l goal (Err e) h = tt

pub plans_fit : (l : Term-F Term) (goal : Formula) (result : Result Step Halt) → Plans result (step_of l goal) → IfOk result (λ step. Fits step (meaning goal))
plans_fit l goal (Ok step) h = step_fits l goal step h
plans_fit l goal (Err e) h = tt

pub rule_enters : (left : ℕ) (t : Term) (goal : Formula) (result : Result Step Halt) → Plans result (step_of (out-Term t) goal) → 0 < left → Enters result (step_within left (out-Term t) goal)
rule_enters left t goal result told some = plans_enters result (step_within left (out-Term t) goal) (subst (λ p. Plans result p) (sym (rule_within left t goal some)) told)
