-- What a term comes to, by what is told of its step and of its parts.
use Rattle.std.proofs.Common.{◌≡◌, ◌-◌, ℕ, List, Result, Ok, Err, refl, sym, subst}
use Rattle.nj_formula.specs.declared.formula.Formula.{Formula}
use Rattle.nj_formula.specs.Meaning.{meaning}
use Rattle.nj_formula.specs.Statement.{Statement}
use Rattle.nj_kernel.specs.declared.thm.Thm.{Thm}
use Rattle.nj_kernel.specs.Sets.{members, Lists}
use Rattle.nj_kernel.specs.Theorem.{assumed}
use Rattle.proof_terms.specs.declared.fault.TermFault.{TermFault}
use Rattle.proof_terms.specs.declared.term.Cite.{Cite}
use Rattle.proof_terms.specs.declared.term.Term.{Term, out-Term}
use Rattle.proof_terms.specs.declared.term.Term.TheVariants.{Fact}
use Rattle.theory_ctx.specs.Locals.{Scoped, looked_in}
use Rattle.proof_checks.specs.declared.halt.Halt.{Halt}
use Rattle.proof_checks.specs.declared.halt.Halt.TheVariants.{Wrong, Stopped, NoMemory}
use Rattle.proof_checks.specs.declared.step.Part.{Part}
use Rattle.proof_checks.specs.declared.step.Step.{Step}
use Rattle.proof_checks.specs.declared.step.Step.TheVariants.{Cited, One, Two, Three}
use Rattle.proof_checks.specs.declared.step.Unary.{Unary}
use Rattle.proof_checks.specs.declared.step.Binary.{Binary}
use Rattle.proof_checks.specs.Answers.{Gives, Enters}
use Rattle.proof_checks.specs.Checks.{Found, and_then, discharged, cited, by_one, by_two, by_three, of_step, step_within, checked_within}
use Rattle.proof_checks.specs.Scopes.{inside, remaining}
use Rattle.proof_checks.proofs.EnterLemmas.{cited_within}
use Rattle.proof_checks.proofs.ProvingLemmas.{checked_is, checked_err, within_of, entered_halt, two_first, two_next, three_first, three_second, three_next}

-- a step's answer is the term's
pub stepped : (left : ℕ) (t : Term) (goal : Formula) (scope : Scoped) (step : Step) (result : Result Thm Halt) → step_within left (out-Term t) goal ≡ Ok step
    → Gives result (of_step (checked_within (left - 1)) scope goal step) (meaning goal) → Gives result (checked_within left t goal scope) (meaning goal)
stepped left t goal scope step result e told =
    subst (λ w. Gives result w (meaning goal)) (sym (checked_is left t goal scope step e (within_of left (out-Term t) goal step e))) told

-- the same of an equal step
pub stepped_as : (left : ℕ) (t : Term) (goal : Formula) (scope : Scoped) (step got : Step) (result : Result Thm Halt) → got ≡ step → step_within left (out-Term t) goal ≡ Ok step
    → Gives result (of_step (checked_within (left - 1)) scope goal got) (meaning goal) → Gives result (checked_within left t goal scope) (meaning goal)
stepped_as left t goal scope step got result same e told =
    stepped left t goal scope step result e (subst (λ s. Gives result (of_step (checked_within (left - 1)) scope goal s) (meaning goal)) same told)

-- an answer to the same term in the same scope is handed on
pub gives_as : (left : ℕ) (term other : Term) (goal : Formula) (scope here : Scoped) (given result : Result Thm Halt) → result ≡ given → term ≡ other → scope ≡ here
    → Gives given (checked_within left term goal scope) (meaning goal) → Gives result (checked_within left other goal here) (meaning goal)
gives_as left term other goal scope here given result on same inside told =
    subst (λ r. Gives r (checked_within left other goal here) (meaning goal)) (sym on)
    (subst (λ s. Gives given (checked_within left other goal s) (meaning goal)) inside
    (subst (λ x. Gives given (checked_within left x goal scope) (meaning goal)) same told))

pub enter_halts : (left : ℕ) (t : Term) (goal : Formula) (scope : Scoped) (given : Result Step Halt) (result : Result Thm Halt) (h : Halt) → given ≡ Err h → result ≡ Err h
    → Enters given (step_within left (out-Term t) goal) → Gives result (checked_within left t goal scope) (meaning goal)
enter_halts left t goal scope given result h is out told =
    subst (λ r. Gives r (checked_within left t goal scope) (meaning goal)) (sym out)
    (entered_halt h (step_within left (out-Term t) goal) (checked_within left t goal scope) (meaning goal) (subst (λ r. Enters r (step_within left (out-Term t) goal)) is told)
    (λ f e. checked_err left t goal scope f e))

-- a halt is one of a whole, where its fault is
halt_of : (h : Halt) (found whole : Found) (c d : Statement) → Gives (Err h) found c → ((f : TermFault) → found ≡ Err f → whole ≡ Err f) → Gives (Err h) whole d
halt_of (Wrong f) found whole c d told next = next f told
halt_of Stopped found whole c d told next = tt
halt_of NoMemory found whole c d told next = tt

halts : (given result : Result Thm Halt) (h : Halt) → given ≡ Err h → result ≡ Err h → (found whole : Found) (c d : Statement) → Gives given found c
    → ((f : TermFault) → found ≡ Err f → whole ≡ Err f) → Gives result whole d
halts given result h is out found whole c d told next =
    subst (λ r. Gives r whole d) (sym out) (halt_of h found whole c d (subst (λ r. Gives r found c) is told) next)

module _ (sub : Term → Formula → Scoped → Found) (goal : Formula) (scope : Scoped) where
  -- the answer to a part in this scope
  abbrev pub Below : Scoped → Part → Found
  Below s p = sub p.term p.goal (inside p.own s)

  abbrev pub Taken : Step → Result Thm Halt → Type 0
  Taken step result = Gives result (of_step sub scope goal step) (meaning goal)

  pub cited_taken : (step : Step) (c : Cite) (result : Result Thm Halt) → step ≡ Cited c → Gives result (cited c.name goal (looked_in scope c.name)) (meaning goal) → Taken step result
  unfolding of_step
  cited_taken step c result is told = subst (λ x. Taken x result) (sym is) told

  pub one_taken : (step : Step) (rule : Unary) (p : Part) (result : Result Thm Halt) → step ≡ One rule p
      → Gives result (and_then (discharged p.own (Below scope p)) (by_one rule (meaning goal))) (meaning goal) → Taken step result
  unfolding of_step
  one_taken step rule p result is told = subst (λ x. Taken x result) (sym is) told

  pub same_taken : (step other : Step) (result : Result Thm Halt) → step ≡ other → Taken other result → Taken step result
  same_taken step other result is told = subst (λ x. Taken x result) (sym is) told

  -- a part that was checked in the scope as it came back
  pub here : (s : Scoped) (result : Result Thm Halt) (p : Part) → s ≡ scope → Gives result (Below s p) (meaning p.goal) → Gives result (Below scope p) (meaning p.goal)
  here s result p same told = subst (λ k. Gives result (Below k p) (meaning p.goal)) same told

  module _ (rule : Binary) (p q : Part) where
    pub two_halts : (given result : Result Thm Halt) (h : Halt) → given ≡ Err h → result ≡ Err h → Gives given (Below scope p) (meaning p.goal) → Taken (Two rule p q) result
    two_halts given result h is out told = halts given result h is out (Below scope p) (of_step sub scope goal (Two rule p q)) (meaning p.goal) (meaning goal) told (two_first sub scope goal rule p q)

    pub two_returns : (given : Result Thm Halt) (t : Thm) (s : Scoped) (result : Result Thm Halt) → given ≡ Ok t → Gives given (Below scope p) (meaning p.goal) → s ≡ scope
        → ((a : List Statement) → Lists (assumed t) (members a)
        → Gives result (and_then (discharged q.own (Below s q)) (by_two rule (meaning p.goal) (meaning goal) (remaining p.own a))) (meaning goal))
        → Taken (Two rule p q) result
    two_returns given t s result is told same joined =
        let first = subst (λ r. Gives r (Below scope p) (meaning p.goal)) is told in
        let a = first.from in
        let last : Scoped → Found = λ k. and_then (discharged q.own (Below k q)) (by_two rule (meaning p.goal) (meaning goal) (remaining p.own a)) in
        subst (λ w. Gives result w (meaning goal)) (sym (two_next sub scope goal rule p q a first.is))
        (subst (λ k. Gives result (last k) (meaning goal)) same (joined a first.lists))

  module _ (p q r : Part) where
    pub three_halts : (given result : Result Thm Halt) (h : Halt) → given ≡ Err h → result ≡ Err h → Gives given (Below scope p) (meaning p.goal) → Taken (Three p q r) result
    three_halts given result h is out told = halts given result h is out (Below scope p) (of_step sub scope goal (Three p q r)) (meaning p.goal) (meaning goal) told (three_first sub scope goal p q r)

    pub three_second_halts : (one : Result Thm Halt) (t : Thm) (s : Scoped) (given result : Result Thm Halt) (h : Halt) → one ≡ Ok t → Gives one (Below scope p) (meaning p.goal)
        → s ≡ scope → given ≡ Err h → result ≡ Err h → Gives given (Below s q) (meaning q.goal) → Taken (Three p q r) result
    three_second_halts one t s given result h first_is first same is out told =
        let proves = subst (λ r. Gives r (Below scope p) (meaning p.goal)) first_is first in
        halts given result h is out (Below scope q) (of_step sub scope goal (Three p q r)) (meaning q.goal) (meaning goal) (here s given q same told)
        (λ f wrong. three_second sub scope goal p q r proves.from f proves.is wrong)

    pub three_returns : (one two : Result Thm Halt) (t u : Thm) (s k : Scoped) (result : Result Thm Halt) → one ≡ Ok t → Gives one (Below scope p) (meaning p.goal) → s ≡ scope
        → two ≡ Ok u → Gives two (Below s q) (meaning q.goal) → k ≡ scope
        → ((a b : List Statement) → Lists (assumed t) (members a) → Lists (assumed u) (members b)
        → Gives result (and_then (discharged r.own (Below k r)) (by_three (remaining p.own a) (remaining q.own b))) (meaning goal))
        → Taken (Three p q r) result
    three_returns one two t u s k result first_is first_told same second_is second_told still joined =
        let first = subst (λ r. Gives r (Below scope p) (meaning p.goal)) first_is first_told in
        let middle = subst (λ r. Gives r (Below scope q) (meaning q.goal)) second_is (here s two q same second_told) in
        let a = first.from in
        let b = middle.from in
        let last : Scoped → Found = λ k. and_then (discharged r.own (Below k r)) (by_three (remaining p.own a) (remaining q.own b)) in
        subst (λ w. Gives result w (meaning goal)) (sym (three_next sub scope goal p q r a b first.is middle.is))
        (subst (λ k. Gives result (last k) (meaning goal)) still (joined a b first.lists middle.lists))

-- a cited fact's answer is the term's
pub fact_told : (left : ℕ) (t : Term) (goal : Formula) (scope : Scoped) (c : Cite) (result : Result Thm Halt) → t ≡ Fact c
    → Gives result (cited c.name goal (looked_in scope c.name)) (meaning goal) → Gives result (checked_within left t goal scope) (meaning goal)
fact_told left t goal scope c result is told =
    stepped left t goal scope (Cited c) result (cited_within left t goal c is)
    (cited_taken (checked_within (left - 1)) goal scope (Cited c) c result refl told)
