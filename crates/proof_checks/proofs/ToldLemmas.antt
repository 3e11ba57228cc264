-- What is told of a check is what was found.
use Rattle.std.proofs.Common.{◌≡◌, ℕ, Result, Ok, Err, sym, subst}
use Rattle.nj_formula.specs.declared.formula.Formula.{Formula}
use Rattle.nj_formula.specs.Meaning.{meaning}
use Rattle.nj_formula.specs.Statement.{Statement}
use Rattle.nj_kernel.specs.declared.thm.Thm.{Thm}
use Rattle.proof_terms.specs.declared.term.Term.{Term}
use Rattle.theory_ctx.specs.Locals.{Scoped}
use Rattle.proof_checks.specs.declared.checked.Checked.{Checked}
use Rattle.proof_checks.specs.declared.checked.Checked.TheVariants as C
use Rattle.proof_checks.specs.declared.halt.Halt.{Halt}
use Rattle.proof_checks.specs.declared.halt.Halt.TheVariants.{Wrong, Stopped, NoMemory}
use Rattle.proof_checks.specs.Answers.{Gives, Answers, AssumesOnly, Counts, Asked, Proves}
use Rattle.proof_checks.specs.Checks.{Found, checked_within}
use Rattle.proof_checks.specs.Scopes.{Stands}
use Rattle.proof_checks.specs.Told.{Tells}
use Rattle.proof_checks.proofs.StandLemmas.{stand}

pub told_answers : (given : Result Thm Halt) (result : Checked) (found : Found) (c : Statement) → Tells given result → Gives given found c → Answers result found c
told_answers (Ok t) (C.Proved u) found c is told = subst (λ x. Proves found c x) (sym is) told
told_answers (Ok t) (C.Wrong f) found c is told = absurd is
told_answers (Ok t) C.Stopped found c is told = tt
told_answers (Ok t) C.NoMemory found c is told = tt
told_answers (Err (Wrong f)) (C.Proved u) found c is told = absurd is
told_answers (Err (Wrong f)) (C.Wrong k) found c is told = subst (λ x. found ≡ Err x) (sym is) told
told_answers (Err (Wrong f)) C.Stopped found c is told = tt
told_answers (Err (Wrong f)) C.NoMemory found c is told = tt
told_answers (Err Stopped) (C.Proved u) found c is told = absurd is
told_answers (Err Stopped) (C.Wrong k) found c is told = absurd is
told_answers (Err Stopped) C.Stopped found c is told = tt
told_answers (Err Stopped) C.NoMemory found c is told = tt
told_answers (Err NoMemory) (C.Proved u) found c is told = absurd is
told_answers (Err NoMemory) (C.Wrong k) found c is told = absurd is
told_answers (Err NoMemory) C.Stopped found c is told = tt
told_answers (Err NoMemory) C.NoMemory found c is told = tt

pub told_counts : (given : Result Thm Halt) (result : Checked) (before now : ℕ) → Tells given result → Asked given before now → Counts result before now
told_counts (Ok t) (C.Proved u) before now is told = told
told_counts (Ok t) (C.Wrong f) before now is told = absurd is
told_counts (Ok t) C.Stopped before now is told = absurd is
told_counts (Ok t) C.NoMemory before now is told = absurd is
told_counts (Err (Wrong f)) (C.Proved u) before now is told = absurd is
told_counts (Err (Wrong f)) (C.Wrong k) before now is told = told
told_counts (Err (Wrong f)) C.Stopped before now is told = absurd is
told_counts (Err (Wrong f)) C.NoMemory before now is told = absurd is
told_counts (Err Stopped) (C.Proved u) before now is told = absurd is
told_counts (Err Stopped) (C.Wrong k) before now is told = absurd is
told_counts (Err Stopped) C.Stopped before now is told = told
told_counts (Err Stopped) C.NoMemory before now is told = absurd is
told_counts (Err NoMemory) (C.Proved u) before now is told = absurd is
told_counts (Err NoMemory) (C.Wrong k) before now is told = absurd is
told_counts (Err NoMemory) C.Stopped before now is told = absurd is
told_counts (Err NoMemory) C.NoMemory before now is told = told

-- what a theorem that is told assumes stands in the scope
pub told_stands : (n : ℕ) (t : Term) (goal : Formula) (scope : Scoped) (result : Checked) → Answers result (checked_within n t goal scope) (meaning goal)
    → AssumesOnly result (Stands scope)
told_stands n t goal scope (C.Proved u) told = λ a m. stand n t goal scope told.from told.is a ((told.lists a).0 m)
told_stands n t goal scope (C.Wrong f) told = tt
told_stands n t goal scope C.Stopped told = tt
told_stands n t goal scope C.NoMemory told = tt
