-- What is found of a rule, by what is found of its last part.
use Rattle.std.proofs.Common.{◌≡◌, ℕ, List, Option, Result, Ok, Err, OnOk, refl, sym, subst}
use Rattle.nj_formula.specs.Statement.{Statement}
use Rattle.nj_kernel.specs.declared.thm.Thm.{Thm}
use Rattle.nj_kernel.specs.Sets.{members, Lists}
use Rattle.nj_kernel.specs.Theorem.{assumed}
use Rattle.theory_ctx.specs.declared.local.Local.{Local}
use Rattle.proof_checks.specs.declared.halt.Halt.{Halt}
use Rattle.proof_checks.specs.declared.halt.Halt.TheVariants.{Wrong, Stopped, NoMemory}
use Rattle.proof_checks.specs.Answers.{Gives, Asked, NotStopped}
use Rattle.proof_checks.specs.Checks.{Found, and_then, discharged}
use Rattle.proof_checks.specs.Joined.{HandsOver}
use Rattle.proof_checks.specs.Scopes.{remaining}
use Rattle.proof_checks.proofs.KnownFound.{then_ok, then_err}

module _ (own : Option Local) (found : Found) (next : List Statement → Found) (c d : Statement) where
  halted : (h : Halt) → Gives (Err h) found c → Gives (Err h) (and_then (discharged own found) next) d
  halted (Wrong f) told = then_err next (then_err (λ s. Ok (remaining own s)) told)
  halted Stopped told = tt
  halted NoMemory told = tt

  pub join_halts : (last result : Result Thm Halt) (h : Halt) → last ≡ Err h → result ≡ Err h → Gives last found c → Gives result (and_then (discharged own found) next) d
  join_halts last result h is out told = subst (λ r. Gives r (and_then (discharged own found) next) d) (sym out) (halted h (subst (λ r. Gives r found c) is told))

  pub join_returns : (last : Result Thm Halt) (t : Thm) (result : Result Thm Halt) → last ≡ Ok t → Gives last found c
      → ((s : List Statement) → Lists (assumed t) (members s) → Gives result (next (remaining own s)) d) → Gives result (and_then (discharged own found) next) d
  join_returns last t result is told joined =
      let proves = subst (λ r. Gives r found c) is told in
      subst (λ w. Gives result w d) (sym (then_ok next (then_ok (λ s. Ok (remaining own s)) proves.is))) (joined proves.from proves.lists)

pub over_halts : (last result : Result Thm Halt) (h : Halt) → last ≡ Err h → result ≡ Err h → HandsOver last result
over_halts last result h is out = subst (λ r. HandsOver r result) (sym is) out

pub over_returns : (last : Result Thm Halt) (t : Thm) (result : Result Thm Halt) → last ≡ Ok t → NotStopped result → HandsOver last result
over_returns last t result is runs = subst (λ r. HandsOver r result) (sym is) runs

-- an answer that is no stop asks nothing
pub runs_asks : (result : Result Thm Halt) (now : ℕ) → NotStopped result → Asked result now now
runs_asks (Ok u) now runs = refl
runs_asks (Err (Wrong f)) now runs = refl
runs_asks (Err Stopped) now runs = absurd runs
runs_asks (Err NoMemory) now runs = refl

pub over_asks : (last result : Result Thm Halt) (before now : ℕ) → HandsOver last result → Asked last before now → Asked result before now
over_asks (Err h) result before now over told = subst (λ r. Asked r before now) (sym over) told
over_asks (Ok t) result before now over told = subst (λ k. Asked result before k) (sym told) (runs_asks result before over)

-- where the rule made a theorem, the last part had one
pub over_ok : (last result : Result Thm Halt) (P : Type 0) → HandsOver last result → OnOk last P → OnOk result P
over_ok (Err h) result P over told = subst (λ r. OnOk r P) (sym over) tt
over_ok (Ok t) (Ok u) P over told = told
over_ok (Ok t) (Err h) P over told = tt
