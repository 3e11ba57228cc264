-- What a call says at its return, by what the calls in it said.
use Rattle.std.proofs.Common.{◌≡◌, ℕ, List, Result, Ok, Err, OnOk, ◌∙◌, ap}
use Rattle.nj_formula.specs.declared.formula.Formula.{Formula}
use Rattle.nj_formula.specs.Meaning.{meaning}
use Rattle.nj_formula.specs.Statement.{Statement}
use Rattle.nj_kernel.specs.declared.thm.Thm.{Thm}
use Rattle.nj_kernel.specs.Sets.{members, Lists}
use Rattle.nj_kernel.specs.Theorem.{assumed}
use Rattle.theory_ctx.specs.Locals.{Scoped, Nested, seen}
use Rattle.proof_terms.specs.declared.term.Term.{Term}
use Rattle.proof_checks.specs.declared.halt.Halt.{Halt}
use Rattle.proof_checks.specs.declared.step.Part.{Part}
use Rattle.proof_checks.specs.declared.step.Step.TheVariants.{Two, Three}
use Rattle.proof_checks.specs.declared.step.Binary.{Binary}
use Rattle.proof_checks.specs.Answers.{Gives, Asked}
use Rattle.proof_checks.specs.Checks.{Found, and_then, discharged, by_two, by_three, of_step}
use Rattle.proof_checks.specs.Joined.{HandsOver}
use Rattle.proof_checks.specs.Scopes.{remaining}
use Rattle.proof_checks.proofs.JoinLemmas.{over_asks, over_ok}
use Rattle.proof_checks.proofs.ReturnLemmas.{Below, two_returns, three_returns}
use Rattle.proof_checks.proofs.TakenLemmas.{asked_then, asked_halt, scope_then, scope_halt, taken_scope, taken_seen}

-- where a call halts, there is no scope to tell of, and no more is asked
pub halted : {A : Type 0} (first : Result A Halt) (result : Result Thm Halt) (h : Halt) (P : Type 0) (before now : ℕ)
    → first ≡ Err h → result ≡ Err h → Asked first before now → OnOk result P × Asked result before now
halted first result h P before now is out told = (scope_halt result h P out, asked_halt first result h before now is out told)

-- the last call's result is handed over
pub over : (last result : Result Thm Halt) (P : Type 0) (before now : ℕ) → HandsOver last result → OnOk last P → Asked last before now
    → OnOk result P × Asked result before now
over last result P before now hands scope told = (over_ok last result P hands scope, over_asks last result before now hands told)

module _ (sub : Term → Formula → Scoped → Found) (goal : Formula) (old : Nested) where
  -- a part's answer in a scope
  abbrev Part_gives : Nested → Part → Result Thm Halt → Type 0
  Part_gives scope p given = Gives given (Below sub goal (seen old) (seen scope) p) (meaning p.goal)

  module _ (rule : Binary) (p q : Part) (one last result : Result Thm Halt) (t : Thm) (mid new : Nested) (before between now : ℕ) where
    pub two_end : one ≡ Ok t → Part_gives old p one → OnOk one (mid ≡ old) → Asked one before between
        → OnOk last (new ≡ mid) → Asked last between now → HandsOver last result
        → ((a : List Statement) → Lists (assumed t) (members a)
        → Gives result (and_then (discharged q.own (Below sub goal (seen old) (seen mid) q)) (by_two rule (meaning p.goal) (meaning goal) (remaining p.own a))) (meaning goal))
        → Gives result (of_step sub (seen old) goal (Two rule p q)) (meaning goal) × OnOk result (new ≡ old) × Asked result before now
    two_end is gives scope asked last_scope last_asked hands joined =
        let rest = over last result (new ≡ old) before now hands (scope_then last old mid new (taken_scope one t (mid ≡ old) is scope) last_scope)
        (asked_then one t last before between now is asked last_asked) in
        (two_returns sub goal (seen old) rule p q one t (seen mid) result is gives (taken_seen one t mid old is scope) joined, rest.0, rest.1)

  module _ (p q r : Part) (one two last result : Result Thm Halt) (t u : Thm) (mid late new : Nested) (before between after now : ℕ) where
    pub three_end : one ≡ Ok t → Part_gives old p one → OnOk one (mid ≡ old) → Asked one before between
        → two ≡ Ok u → Part_gives mid q two → OnOk two (late ≡ mid) → Asked two between after
        → OnOk last (new ≡ late) → Asked last after now → HandsOver last result
        → ((a b : List Statement) → Lists (assumed t) (members a) → Lists (assumed u) (members b)
        → Gives result (and_then (discharged r.own (Below sub goal (seen old) (seen late) r)) (by_three (remaining p.own a) (remaining q.own b))) (meaning goal))
        → Gives result (of_step sub (seen old) goal (Three p q r)) (meaning goal) × OnOk result (new ≡ old) × Asked result before now
    three_end is gives scope asked second second_gives second_scope second_asked last_scope last_asked hands joined =
        let back = taken_scope two u (late ≡ mid) second second_scope ∙ taken_scope one t (mid ≡ old) is scope in
        let rest = over last result (new ≡ old) before now hands (scope_then last old late new back last_scope)
        (asked_then one t last before between now is asked (asked_then two u last between after now second second_asked last_asked)) in (
          three_returns sub goal (seen old) p q r one two t u (seen mid) (seen late) result is gives (taken_seen one t mid old is scope)
              second second_gives (ap seen back) joined,
          rest.0,
          rest.1,
        )
