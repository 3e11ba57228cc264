-- What a step asks of its parts.
use Rattle.std.proofs.Common.{◌≡◌, ◌<◌, ℕ, Result, Ok, Err, IfOk, OnOk, sym, ◌∙◌, ap, subst}
use Rattle.nj_formula.specs.Meaning.{meaning}
use Rattle.nj_formula.specs.Statement.{Statement}
use Rattle.nj_kernel.specs.declared.thm.Thm.{Thm}
use Rattle.nj_kernel.specs.Theorem.{shown}
use Rattle.theory_ctx.specs.Locals.{Nested, seen}
use Rattle.proof_checks.specs.declared.halt.Halt.{Halt}
use Rattle.proof_checks.specs.declared.halt.Halt.TheVariants.{Wrong, Stopped, NoMemory}
use Rattle.proof_checks.specs.declared.step.Part.{Part}
use Rattle.proof_checks.specs.declared.step.Step.{Step}
use Rattle.proof_checks.specs.declared.step.Step.TheVariants.{One, Two, Three}
use Rattle.proof_checks.specs.declared.step.Unary.{Unary}
use Rattle.proof_checks.specs.declared.step.Binary.{Binary}
use Rattle.proof_checks.specs.Answers.{Gives, Asked}
use Rattle.proof_checks.specs.Checks.{Found}
use Rattle.proof_checks.specs.Fits.{Fits, FitsOne, FitsTwo, FitsThree, IsWithin}

-- what an equal step asks
pub got_within : (step got : Step) (left : ℕ) → got ≡ step → IsWithin step left → IsWithin got left
got_within step got left same within = subst (λ s. IsWithin s left) (sym same) within

pub got_fits : (step got : Step) (g : Statement) → got ≡ step → Fits step g → Fits got g
got_fits step got g same fits = subst (λ s. Fits s g) (sym same) fits

module _ (step : Step) (left : ℕ) where
  pub one_within : (rule : Unary) (p : Part) → step ≡ One rule p → IsWithin step left → 0 < left
  one_within rule p is within = subst (λ s. IsWithin s left) is within

  pub two_within : (rule : Binary) (p q : Part) → step ≡ Two rule p q → IsWithin step left → 0 < left
  two_within rule p q is within = subst (λ s. IsWithin s left) is within

  pub three_within : (p q r : Part) → step ≡ Three p q r → IsWithin step left → 0 < left
  three_within p q r is within = subst (λ s. IsWithin s left) is within

module _ (step : Step) (g : Statement) where
  pub one_fits : (rule : Unary) (p : Part) → step ≡ One rule p → Fits step g → FitsOne rule p.own (meaning p.goal) g
  unfolding Fits
  one_fits rule p is fits = subst (λ s. Fits s g) is fits

  pub two_fits : (rule : Binary) (p q : Part) → step ≡ Two rule p q → Fits step g → FitsTwo rule p.own q.own (meaning p.goal) (meaning q.goal) g
  unfolding Fits
  two_fits rule p q is fits = subst (λ s. Fits s g) is fits

  pub three_fits : (p q r : Part) → step ≡ Three p q r → Fits step g → FitsThree p.own q.own r.own (meaning p.goal) (meaning q.goal) (meaning r.goal) g
  unfolding Fits
  three_fits p q r is fits = subst (λ s. Fits s g) is fits

-- a theorem that is given shows what it is to show
pub given_shows : (given : Result Thm Halt) (found : Found) (c : Statement) → Gives given found c → IfOk given (λ t. shown t ≡ c)
given_shows (Ok t) found c told = told.shows
given_shows (Err h) found c told = tt

pub taken_shows : (given : Result Thm Halt) (t : Thm) (found : Found) (c : Statement) → given ≡ Ok t → Gives given found c → shown t ≡ c
taken_shows given t found c is told = let proves = subst (λ r. Gives r found c) is told in proves.shows

-- a question after others
pub asked_then : {A : Type 0} (first : Result A Halt) (a : A) (last : Result Thm Halt) (old mid now : ℕ) → first ≡ Ok a → Asked first old mid → Asked last mid now → Asked last old now
asked_then first a last old mid now is told more = let same : mid ≡ old = subst (λ r. Asked r old mid) is told in subst (λ k. Asked last k now) same more

asked_so : (A : Type 0) (h : Halt) (old now : ℕ) → Asked {A = A} (Err h) old now → Asked {A = Thm} (Err h) old now
asked_so A (Wrong f) old now told = told
asked_so A Stopped old now told = told
asked_so A NoMemory old now told = told

pub asked_halt : {A : Type 0} (first : Result A Halt) (result : Result Thm Halt) (h : Halt) (old now : ℕ) → first ≡ Err h → result ≡ Err h → Asked first old now → Asked result old now
asked_halt {A} first result h old now is out told = subst (λ r. Asked r old now) (sym out) (asked_so A h old now (subst (λ r. Asked r old now) is told))

pub scope_then : (last : Result Thm Halt) (a b c : Nested) → b ≡ a → OnOk last (c ≡ b) → OnOk last (c ≡ a)
scope_then (Ok t) a b c same told = told ∙ same
scope_then (Err h) a b c same told = tt

pub scope_halt : (result : Result Thm Halt) (h : Halt) (P : Type 0) → result ≡ Err h → OnOk result P
scope_halt result h P out = subst (λ r. OnOk r P) (sym out) tt

pub taken_scope : (given : Result Thm Halt) (t : Thm) (P : Type 0) → given ≡ Ok t → OnOk given P → P
taken_scope given t P is told = subst (λ r. OnOk r P) is told

pub taken_seen : (given : Result Thm Halt) (t : Thm) (new old : Nested) → given ≡ Ok t → OnOk given (new ≡ old) → seen new ≡ seen old
taken_seen given t new old is told = ap seen (taken_scope given t (new ≡ old) is told)
