-- The answer to a quoted text.
use Rattle.std.proofs.Common.{◌≡◌, ◌⊎◌, Result, Ok, Err, ap, sym, ⊎_elim}
use Rattle.nj_syntax.specs.declared.fault.FormulaFault.{FormulaFault}
use Rattle.nj_syntax.specs.declared.fault.FormulaFault.TheVariants.{At, TooDeep, NoMemory}
use Rattle.proof_terms.specs.Faults.{quoted_fault}
use Rattle.proof_terms.specs.Reading.{Quotes, quoted_error}

abbrev Told : {A : Type 0} → Result A FormulaFault → Result A FormulaFault → Type 0
Told answer told = (answer ≡ Err NoMemory) ⊎ (answer ≡ told)

pub found : {A : Type 0} (told : Result A FormulaFault) (a : A) → Told (Ok a) told → told ≡ Ok a
found told a h = ⊎_elim (λ e. cc) (λ e. sym e) h

same_fault : {A : Type 0} (f g : FormulaFault) → ◌≡◌ {A = Result A FormulaFault} (Err f) (Err g) → f ≡ g
same_fault f g e = cc

pub told_fault : {A : Type 0} (told : Result A FormulaFault) (f : FormulaFault) → Told (Err f) told → Quotes told (Err (quoted_error f))
told_fault (Ok a) (At at kind) h = ⊎_elim (λ e. cc) (λ e. cc) h
told_fault (Ok a) TooDeep h = ⊎_elim (λ e. cc) (λ e. cc) h
told_fault (Ok a) NoMemory h = tt
told_fault (Err g) (At at kind) h = ⊎_elim (λ e. cc) (λ e. ap quoted_fault (same_fault (At at kind) g e)) h
told_fault (Err g) TooDeep h = ⊎_elim (λ e. cc) (λ e. ap quoted_fault (same_fault TooDeep g e)) h
told_fault (Err g) NoMemory h = tt
