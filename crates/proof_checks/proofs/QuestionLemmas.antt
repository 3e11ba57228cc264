-- How often was asked in all, by how often was asked in each part.
use Rattle.std.proofs.Common.{◌≡◌, ◌≤◌, ◌+◌, ◌∙◌, ℕ, Result, Ok, Err, refl, sym, ap, subst, arith}
use Rattle.pide_base.specs.Faults.{risen}
use Rattle.pide_base.specs.Questions.{risen_by, IsAskedUpTo}
use Rattle.pide_base.proofs.KnownQuestions.{asked_then, up_to_then, up_to_more}
use Rattle.nj_formula.specs.Statement.{Statement}
use Rattle.nj_kernel.specs.declared.thm.Thm.{Thm}
use Rattle.proof_checks.specs.declared.checked.Checked.{Checked}
use Rattle.proof_checks.specs.declared.checked.Checked.TheVariants as C
use Rattle.proof_checks.specs.declared.halt.Halt.{Halt}
use Rattle.proof_checks.specs.declared.halt.Halt.TheVariants.{Wrong, Stopped, NoMemory}
use Rattle.proof_checks.specs.Answers.{Gives}
use Rattle.proof_checks.specs.Checks.{Found}
use Rattle.proof_checks.specs.Joined.{HandsOver}
use Rattle.proof_checks.specs.Questions.{if_faultless, AskedEach, AsksEach}
use Rattle.proof_checks.specs.Told.{Tells}

-- just so many questions are as many as any answer allows
pub each_of : (result : Result Thm Halt) (n before now : ℕ) → now ≡ risen_by n before → AskedEach result n before now
each_of (Ok t) n before now is = is
each_of (Err (Wrong f)) n before now is = is
each_of (Err Stopped) n before now is = (n, omega arith, is)
each_of (Err NoMemory) n before now is = tt

-- questions, and then those of the last call
pub each_then : (last : Result Thm Halt) (m n before between now : ℕ) → between ≡ risen_by m before → AskedEach last n between now → AskedEach last (m + n) before now
each_then (Ok t) m n before between now first told = asked_then m n before between now first told
each_then (Err (Wrong f)) m n before between now first told = asked_then m n before between now first told
each_then (Err Stopped) m n before between now first told = up_to_then m n before between now first told
each_then (Err NoMemory) m n before between now first told = tt

-- the last call's result is handed over
pub each_over : (last result : Result Thm Halt) (n before now : ℕ) → HandsOver last result → AskedEach last n before now → AskedEach result n before now
each_over (Err h) result n before now over told = subst (λ r. AskedEach r n before now) (sym over) told
each_over (Ok t) result n before now over told = each_of result n before now told

each_halt : (h : Halt) (n more before now : ℕ) (found : Found) (c : Statement) → Gives (Err h) found c → AskedEach (Err h) n before now
    → AskedEach (Err h) (n + if_faultless found more) before now
each_halt (Wrong f) n more before now found c told asks =
    let none : n + if_faultless found more ≡ n = ap (λ w. n + if_faultless w more) told ∙ omega arith in
    subst (λ k. now ≡ risen_by k before) (sym none) asks
each_halt Stopped n more before now found c told asks = up_to_more n (n + if_faultless found more) before now (omega arith) asks
each_halt NoMemory n more before now found c told asks = tt

-- where a part halts, nothing is asked behind it
pub halt_asks : (first result : Result Thm Halt) (h : Halt) (n more before now : ℕ) (found : Found) (c : Statement) → first ≡ Err h → result ≡ Err h
    → Gives first found c → AskedEach first n before now → AskedEach result (n + if_faultless found more) before now
halt_asks first result h n more before now found c is out told asks =
    subst (λ r. AskedEach r (n + if_faultless found more) before now) (sym out)
    (each_halt h n more before now found c (subst (λ r. Gives r found c) is told) (subst (λ r. AskedEach r n before now) is asks))

-- where a part has a theorem, the next is asked for
pub proved_next : (first : Result Thm Halt) (t : Thm) (more : ℕ) (found : Found) (c : Statement) → first ≡ Ok t → Gives first found c → if_faultless found more ≡ more
proved_next first t more found c is told = let proves = subst (λ r. Gives r found c) is told in ap (λ w. if_faultless w more) proves.is

pub proved_asks : (first : Result Thm Halt) (t : Thm) (n before now : ℕ) → first ≡ Ok t → AskedEach first n before now → now ≡ risen_by n before
proved_asks first t n before now is told = subst (λ r. AskedEach r n before now) is told

-- a part, and what follows it
pub next_asks : (first last : Result Thm Halt) (t : Thm) (n more before between now : ℕ) (found : Found) (c : Statement) → first ≡ Ok t → Gives first found c
    → AskedEach first n before between → AskedEach last more between now → AskedEach last (n + if_faultless found more) before now
next_asks first last t n more before between now found c is told asks rest =
    subst (λ k. AskedEach last (n + k) before now) (sym (proved_next first t more found c is told))
    (each_then last n more before between now (proved_asks first t n before between is asks) rest)

pub told_asks : (given : Result Thm Halt) (result : Checked) (n before now : ℕ) → Tells given result → AskedEach given n before now → AsksEach result n before now
told_asks (Ok t) (C.Proved u) n before now is told = told
told_asks (Ok t) (C.Wrong f) n before now is told = absurd is
told_asks (Ok t) C.Stopped n before now is told = absurd is
told_asks (Ok t) C.NoMemory n before now is told = absurd is
told_asks (Err (Wrong f)) (C.Proved u) n before now is told = absurd is
told_asks (Err (Wrong f)) (C.Wrong k) n before now is told = told
told_asks (Err (Wrong f)) C.Stopped n before now is told = absurd is
told_asks (Err (Wrong f)) C.NoMemory n before now is told = absurd is
told_asks (Err Stopped) (C.Proved u) n before now is told = absurd is
told_asks (Err Stopped) (C.Wrong k) n before now is told = absurd is
told_asks (Err Stopped) C.Stopped n before now is told = told
told_asks (Err Stopped) C.NoMemory n before now is told = absurd is
told_asks (Err NoMemory) (C.Proved u) n before now is told = absurd is
told_asks (Err NoMemory) (C.Wrong k) n before now is told = absurd is
told_asks (Err NoMemory) C.Stopped n before now is told = absurd is
told_asks (Err NoMemory) C.NoMemory n before now is told = told
