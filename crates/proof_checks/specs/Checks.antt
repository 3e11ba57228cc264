-- The answer to a proof term, a goal and a scope, as a function: the statements that the proof
-- assumes, or the first fault. A rule is judged before its parts, the parts from the left, and
-- fresh names after the parts (this project's own; the conditions on names are Gentzen's, 1935).
use Rattle.std.specs.Prelude.{ℕ, zero, suc, List, [], ◌∷◌, ◌++◌, Option, Result, Ok, Err}
use Rattle.std.specs.Prelude.{if◌then◌else◌}
use Rattle.nj_formula.specs.declared.formula.Formula.{Formula}
use Rattle.nj_formula.specs.Meaning.{meaning}
use Rattle.nj_formula.specs.Statement.{Statement}
use Rattle.theory_ctx.specs.Answers.{Answer, found, unknown, ambiguous}
use Rattle.theory_ctx.specs.declared.local.Local.{Local}
use Rattle.theory_ctx.specs.Locals.{Scoped, looked_in}
use Rattle.proof_terms.specs.declared.fault.TermFault.{TermFault}
use Rattle.proof_terms.specs.declared.fault.TermFault.TheVariants.{ProofTooDeep, UnknownName}
use Rattle.proof_terms.specs.declared.fault.TermFault.TheVariants.{AmbiguousName, ProvesAnother}
use Rattle.proof_terms.specs.declared.fault.TermFault.TheVariants.{NotFresh}
use Rattle.proof_terms.specs.declared.term.Term.{Term, out-Term}
use Rattle.proof_terms.specs.declared.term.Term.TheOpen.{Term-F}
use Rattle.proof_terms.specs.Reading.{deepest}
use Rattle.proof_checks.specs.declared.step.Part.{Part}
use Rattle.proof_checks.specs.declared.step.Step.{Step}
use Rattle.proof_checks.specs.declared.step.Step.TheVariants.{Cited, One, Two, Three}
use Rattle.proof_checks.specs.declared.step.Unary.{Unary}
use Rattle.proof_checks.specs.declared.step.Unary.TheVariants.{AllI}
use Rattle.proof_checks.specs.declared.step.Binary.{Binary}
use Rattle.proof_checks.specs.declared.step.Binary.TheVariants.{ExE}
use Rattle.proof_checks.specs.Rows.{Planned, step_of}
use Rattle.proof_checks.specs.Scopes.{inside, remaining}
use Rattle.proof_checks.specs.Statements.{is_same, is_free_among}

-- what the proof assumes, or the first fault
abbrev pub Found : Type 0
Found = Result (List Statement) TermFault

-- then the next, unless there was a fault
abbrev pub and_then : {A B : Type 0} → Result A TermFault → (A → Result B TermFault)
    → Result B TermFault
and_then (Err fault) next = Err fault
and_then (Ok a) next = next a

-- a name that means this
abbrev pub cited : List ℕ → Formula → Answer → Found
cited name goal (found theory fact formula) =
    if is_same (meaning formula) (meaning goal) then Ok (meaning formula ∷ [])
    else Err (ProvesAnother name)
cited name goal unknown = Err (UnknownName name)
cited name goal (ambiguous one other) = Err (AmbiguousName name)

-- what the proof assumes, where the name is free in none of the others
abbrev pub if_fresh : List ℕ → List Statement → List Statement → Found
if_fresh x others s = if is_free_among x others then Err (NotFresh x) else Ok s

-- a rule of one premise, which assumes s; it concludes c
unfoldable pub by_one : Unary → Statement → List Statement → Found
by_one (AllI x) c s = if_fresh x (c ∷ s) s
by_one _ c s = Ok s

-- a rule of two premises, which assume s and t; the first shows a, and it concludes c
unfoldable pub by_two : Binary → Statement → Statement → List Statement → List Statement → Found
by_two (ExE x) a c s t = if_fresh x (a ∷ c ∷ t) (s ++ t)
by_two _ a c s t = Ok (s ++ t)

-- the rule disjE, whose premises assume s, t and u
abbrev pub by_three : List Statement → List Statement → List Statement → Found
by_three s t u = Ok (s ++ t ++ u)

-- what is found of a part, but for its own assumption, which is discharged
abbrev pub discharged : Option Local → Found → Found
discharged own whole = and_then whole (λ s. Ok (remaining own s))

-- where `sub` answers for parts
module _ (sub : Term → Formula → Scoped → Found) (scope : Scoped) where
  -- a part
  abbrev pub of_part : Part → Found
  of_part p = discharged p.own (sub p.term p.goal (inside p.own scope))

  -- what a term comes to
  unfoldable pub of_step : Formula → Step → Found
  of_step goal (Cited c) = cited c.name goal (looked_in scope c.name)
  of_step goal (One rule p) = and_then (of_part p) (by_one rule (meaning goal))
  of_step goal (Two rule p q) =
      and_then (of_part p)
      (λ s. and_then (of_part q) (by_two rule (meaning p.goal) (meaning goal) s))
  of_step goal (Three p q r) =
      and_then (of_part p) (λ s. and_then (of_part q) (λ t. and_then (of_part r) (by_three s t)))

-- what a term of this outermost layer comes to, where at most so many rules may be nested
unfoldable pub step_within : ℕ → Term-F Term → Formula → Planned
step_within zero (Term-F.Fact c) goal = Ok (Cited c)
step_within zero _ goal = Err ProofTooDeep
step_within (suc n) term goal = step_of term goal

-- a term in which at most so many rules are nested
unfoldable pub checked_within : ℕ → Term → Formula → Scoped → Found
checked_within zero t goal scope = and_then (step_within zero (out-Term t) goal)
    (of_step (λ _ _ _. Err ProofTooDeep) scope goal)
checked_within (suc n) t goal scope = and_then (step_within (suc n) (out-Term t) goal)
    (of_step (checked_within n) scope goal)

-- the answer to a term
abbrev pub checked : Term → Formula → Scoped → Found
checked t goal scope = checked_within deepest t goal scope
