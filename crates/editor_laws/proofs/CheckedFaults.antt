-- The faults of a term of plain names have plain texts.
use Rattle.std.proofs.Common.{ℕ, zero, suc, Bool, true, false, cond, List, [], ◌∷◌, ◌++◌, codes}
use Rattle.std.proofs.Common.{Result, Ok, Err, refl, sym, ap, subst, ◌∙◌}
use Rattle.std.specs.Prelude.{⊤}
use Rattle.nj_formula.specs.declared.formula.Formula.{Formula}
use Rattle.nj_formula.specs.Meaning.{meaning}
use Rattle.nj_formula.specs.Statement.{Statement}
use Rattle.theory_ctx.specs.Answers.{Answer, found, unknown, ambiguous}
use Rattle.theory_ctx.specs.Locals.{Scoped, looked_in}
use Rattle.proof_terms.specs.declared.fault.TermFault.{TermFault}
use Rattle.proof_terms.specs.declared.fault.TermFault.TheVariants.{ProofTooDeep, ProvesAnother}
use Rattle.proof_terms.specs.declared.fault.TermFault.TheVariants.{NotFresh}
use Rattle.proof_terms.specs.declared.term.Term.{Term, out-Term, roll-out-Term, fold-roll-Term}
use Rattle.proof_terms.specs.Reading.{deepest}
use Rattle.proof_checks.specs.declared.step.Part.{Part}
use Rattle.proof_checks.specs.declared.step.Step.{Step}
use Rattle.proof_checks.specs.declared.step.Step.TheVariants.{Cited, One, Two, Three}
use Rattle.proof_checks.specs.declared.step.Unary.{Unary}
use Rattle.proof_checks.specs.declared.step.Unary.TheVariants as U
use Rattle.proof_checks.specs.declared.step.Binary.{Binary}
use Rattle.proof_checks.specs.declared.step.Binary.TheVariants as B
use Rattle.proof_checks.specs.Checks.{Found, and_then, cited, if_fresh, by_one, by_two, of_part}
use Rattle.proof_checks.specs.Checks.{of_step, step_within, checked_within, checked}
use Rattle.proof_checks.specs.Scopes.{inside}
use Rattle.proof_checks.specs.Statements.{is_same, is_free_among}
use Rattle.editor_laws.proofs.PlainTexts.{Plain, spelled, joined, after}
use Rattle.editor_laws.proofs.JudgedMarks.{FaultPlain}
use Rattle.editor_laws.proofs.TermNames.{Names, names_layer, names_of, AllPlain, TermPlain}
use Rattle.editor_laws.proofs.PlannedRules.{PartPlain, UnaryPlain, BinaryPlain, StepPlain, IfFound}
use Rattle.editor_laws.proofs.PlannedSteps.{LayerPlain, within_plain}

next_found : {A B : Type 0} (P : A → Type 0) (Q : B → Type 0) (m : Result A TermFault) (go_on : A
    → Result B TermFault) → IfFound P m
    → ((a : A) → P a → IfFound Q (go_on a)) → IfFound Q (and_then m go_on)
next_found P Q (Ok a) go_on is each = each a is
next_found P Q (Err fault) go_on is each = is

abbrev Any : List Statement → Type 0
Any s = ⊤

cited_found : (x : List ℕ) (goal : Formula) (a : Answer) → Plain x → IfFound Any (cited x goal a)
cited_found x goal (found theory fact formula) p = go (is_same (meaning formula) (meaning goal))
  where
    go : (b : Bool) → IfFound Any (cond b (Ok (meaning formula ∷ [])) (Err (ProvesAnother x)))
    go true = tt
    go false = joined p (spelled refl)
cited_found x goal unknown p = after (codes "unknown name ") refl p
cited_found x goal (ambiguous one other) p = after (codes "ambiguous name ") refl p

fresh_found : (x : List ℕ) (others s : List Statement) → Plain x → IfFound Any (if_fresh x others s)
fresh_found x others s p = go (is_free_among x others)
  where
    go : (b : Bool) → IfFound Any (cond b (Err (NotFresh x)) (Ok s))
    go true = after (codes "variable ") refl (joined p (spelled refl))
    go false = tt

one_found : (rule : Unary) (c : Statement) (s : List Statement) → UnaryPlain rule
    → IfFound Any (by_one rule c s)
unfolding by_one
one_found (U.AllI x) c s p = fresh_found x (c ∷ s) s p
one_found _ c s p = tt

two_found : (rule : Binary) (a c : Statement) (s t : List Statement) → BinaryPlain rule
    → IfFound Any (by_two rule a c s t)
unfolding by_two
two_found (B.ExE x) a c s t p = fresh_found x (a ∷ c ∷ t) (s ++ t) p
two_found _ a c s t p = tt

module _ (sub : Term → Formula → Scoped → Found)
    (each : (t : Term) (goal : Formula) (scope : Scoped) → TermPlain t
    → IfFound Any (sub t goal scope)) (scope : Scoped) where
  part_found : (p : Part) → PartPlain p → IfFound Any (of_part sub scope p)
  part_found p plain =
      next_found Any Any (sub p.term p.goal (inside p.own scope)) _
      (each p.term p.goal (inside p.own scope) plain) (λ s _. tt)

  step_found : (goal : Formula) (s : Step) → StepPlain s → IfFound Any (of_step sub scope goal s)
  unfolding of_step
  step_found goal (Cited c) p = cited_found c.name goal (looked_in scope c.name) p
  step_found goal (One rule q) p =
      next_found Any Any (of_part sub scope q) _ (part_found q p.1)
      (λ s _. one_found rule (meaning goal) s p.0)
  step_found goal (Two rule q r) p =
      next_found Any Any (of_part sub scope q) _ (part_found q p.1)
      (λ s _. next_found Any Any (of_part sub scope r) _ (part_found r p.2)
      (λ t _. two_found rule (meaning q.goal) (meaning goal) s t p.0))
  step_found goal (Three q r t) p =
      next_found Any Any (of_part sub scope q) _ (part_found q p.0)
      (λ s _. next_found Any Any (of_part sub scope r) _ (part_found r p.1)
      (λ u _. next_found Any Any (of_part sub scope t) _ (part_found t p.2) (λ v _. tt)))

layer_of : (t : Term) → TermPlain t → LayerPlain (out-Term t)
layer_of t p =
    subst AllPlain
    (ap names_of (sym (roll-out-Term t)) ∙ fold-roll-Term Names names_layer (out-Term t)) p

within_found : (n : ℕ) (t : Term) (goal : Formula) (scope : Scoped) → TermPlain t
    → IfFound Any (checked_within n t goal scope)
unfolding checked_within
within_found zero t goal scope p =
    next_found StepPlain Any (step_within zero (out-Term t) goal) _
    (within_plain zero (out-Term t) goal (layer_of t p))
    (λ s q. step_found (λ _ _ _. Err ProofTooDeep) (λ _ _ _ _. spelled refl) scope goal s q)
within_found (suc n) t goal scope p =
    next_found StepPlain Any (step_within (suc n) (out-Term t) goal) _
    (within_plain (suc n) (out-Term t) goal (layer_of t p))
    (λ s q. step_found (checked_within n) (within_found n) scope goal s q)

-- the answer to a term
abbrev pub IfChecked : Found → Type 0
IfChecked (Ok s) = ⊤
IfChecked (Err fault) = FaultPlain fault

pub checked_plain : (t : Term) (goal : Formula) (scope : Scoped) → TermPlain t
    → IfChecked (checked t goal scope)
checked_plain t goal scope p = go (checked t goal scope) (within_found deepest t goal scope p)
  where
    go : (r : Found) → IfFound Any r → IfChecked r
    go (Ok s) is = tt
    go (Err fault) is = is
