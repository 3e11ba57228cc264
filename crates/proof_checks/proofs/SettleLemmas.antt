-- What becomes of the kernel's answers.
use Rattle.std.proofs.Common.{◌≡◌, ℕ, Bool, true, false, cond, List, Option, Some, None, Result, Ok, Err, refl, sym, ◌∙◌, ap, subst}
use Rattle.nj_formula.specs.Statement.{Statement}
use Rattle.nj_kernel.specs.declared.rule.Rule.{Rule}
use Rattle.nj_kernel.specs.declared.thm.Thm.{Thm}
use Rattle.nj_kernel.specs.declared.fault.RuleError.TheVariants as E
use Rattle.nj_kernel.specs.Rules.{Answer, Makes, Misfits, Depending}
use Rattle.nj_kernel.specs.Sets.{members}
use Rattle.nj_kernel.specs.Theorem.{assumed}
use Rattle.proof_terms.specs.declared.fault.TermFault.TheVariants.{NotFresh}
use Rattle.proof_checks.specs.declared.halt.Halt.{Halt}
use Rattle.proof_checks.specs.declared.halt.Halt.TheVariants.{Wrong, Stopped, NoMemory}
use Rattle.proof_checks.specs.Answers.{Gives, NotStopped, Proves}
use Rattle.proof_checks.specs.Checks.{Found, if_fresh}
use Rattle.proof_checks.specs.Kernel.{IsFit, Settles}
use Rattle.proof_checks.specs.Statements.{is_free_among}
use Rattle.proof_checks.proofs.SetLemmas.{Same, along}

-- a rule that makes a theorem names no premise
pub fit_made : (x : Option (List ℕ)) (r : Answer) (P : Statement → Type 0) (c : Statement) → Makes r P c → IsFit x r
fit_made None (Ok t) P c m = tt
fit_made None (Err E.NoMemory) P c m = tt
fit_made None (Err (E.Fault f)) P c m = m
fit_made (Some x) r P c m = tt

short : (x : Option (List ℕ)) (result : Result Thm Halt) (found : Found) (c : Statement) → Settles x (Err E.NoMemory) result → Gives result found c
short None (Ok u) found c settled = absurd settled
short None (Err (Wrong fault)) found c settled = absurd settled
short None (Err Stopped) found c settled = tt
short None (Err NoMemory) found c settled = tt
short (Some x) (Ok u) found c settled = absurd settled
short (Some x) (Err (Wrong fault)) found c settled = absurd settled
short (Some x) (Err Stopped) found c settled = tt
short (Some x) (Err NoMemory) found c settled = tt

pub made : (x : Option (List ℕ)) (r : Answer) (result : Result Thm Halt) (P : Statement → Type 0) (c : Statement) (s : List Statement)
    → Makes r P c → Settles x r result → Same P (members s) → Gives result (Ok s) c
made x (Ok t) (Ok u) P c s m settled same =
    let is : t ≡ u = settled in
    subst (λ v. Proves (Ok s) c v) is (record { from = s; is = refl; lists = along (assumed t) m.0 same; shows = m.1 })
made x (Ok t) (Err (Wrong fault)) P c s m settled same = absurd settled
made x (Ok t) (Err Stopped) P c s m settled same = tt
made x (Ok t) (Err NoMemory) P c s m settled same = tt
made x (Err E.NoMemory) result P c s m settled same = short x result (Ok s) c settled
made x (Err (E.Fault f)) result P c s m settled same = absurd m

-- a refused premise is the fault of the name
refused : (x : List ℕ) (r : Answer) (result : Result Thm Halt) (rule : Rule) (n : ℕ) (c : Statement) → Misfits r rule n → Settles (Some x) r result
    → Gives result (Err (NotFresh x)) c
refused x (Ok t) result rule n c m settled = absurd m
refused x (Err E.NoMemory) result rule n c m settled = short (Some x) result (Err (NotFresh x)) c settled
refused x (Err (E.Fault f)) (Ok u) rule n c m settled = absurd settled
refused x (Err (E.Fault f)) (Err (Wrong fault)) rule n c m settled = ap Err (sym settled)
refused x (Err (E.Fault f)) (Err Stopped) rule n c m settled = tt
refused x (Err (E.Fault f)) (Err NoMemory) rule n c m settled = tt

-- a rule that depends on a fresh name
pub depending : (x : List ℕ) (others s : List Statement) (r : Answer) (result : Result Thm Halt) (P : Statement → Type 0) (c : Statement) (rule : Rule) (n : ℕ) (C : Type 0)
    → (is_free_among x others ≡ false → C) → (C → is_free_among x others ≡ false)
    → Depending C (Makes r P c) (Misfits r rule n) → Settles (Some x) r result → Same P (members s)
    → Gives result (if_fresh x others s) c
depending x others s r result P c rule n C into out answer settled same = by (is_free_among x others) refl
  where
    by : (b : Bool) → is_free_among x others ≡ b → Gives result (if_fresh x others s) c
    by false e =
        subst (λ found. Gives result found c) (sym (ap (λ b. cond b (Err (NotFresh x)) (Ok s)) e)) (made (Some x) r result P c s (answer.0 (into e)) settled same)
    by true e =
        subst (λ found. Gives result found c) (sym (ap (λ b. cond b (Err (NotFresh x)) (Ok s)) e)) (refused x r result rule n c (answer.1 (λ holds. let h : true ≡ false = sym e ∙ out holds in cc)) settled)

-- no answer of the kernel stops
pub settles_runs : (x : Option (List ℕ)) (r : Answer) (result : Result Thm Halt) → Settles x r result → NotStopped result
settles_runs x r (Ok t) settled = tt
settles_runs x r (Err (Wrong f)) settled = tt
settles_runs x (Ok t) (Err Stopped) settled = settled
settles_runs None (Err e) (Err Stopped) settled = settled
settles_runs (Some x) (Err E.NoMemory) (Err Stopped) settled = settled
settles_runs (Some x) (Err (E.Fault f)) (Err Stopped) settled = settled
settles_runs x r (Err NoMemory) settled = tt
