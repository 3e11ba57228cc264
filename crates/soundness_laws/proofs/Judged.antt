-- A `by` whose fork tells no error closes a goal that follows.
use Rattle.std.proofs.Common.{◌≡◌, ℕ, List, [], Ok, Err, refl}
use Rattle.std.specs.Prelude.{drop, Result}
use Rattle.nj_formula.specs.declared.formula.Formula.{Formula}
use Rattle.nj_formula.specs.Meaning.{meaning}
use Rattle.nj_formula.specs.Statement.{Statement}
use Rattle.nj_kernel.specs.Nj.{Nj}
use Rattle.nj_kernel.specs.Sets.{members}
use Rattle.theory_ctx.specs.Facts.{Fact}
use Rattle.theory_ctx.specs.Locals.{Scoped}
use Rattle.outer_syntax.specs.declared.token.Token.{Token}
use Rattle.proof_terms.specs.declared.fault.TermFault.{TermFault}
use Rattle.proof_terms.specs.declared.term.Term.{Term}
use Rattle.proof_terms.specs.Marks.{marks}
use Rattle.proof_terms.specs.Reading.{proof_of}
use Rattle.proof_checks.specs.Checks.{checked}
use Rattle.proof_checks.specs.Scopes.{Stands}
use Rattle.proof_state.specs.declared.levels.Levels.{Levels}
use Rattle.proof_state.specs.declared.levels.Levels.TheVariants.{Closed, Prove, State}
use Rattle.proof_state.specs.Follows.{Follows, IsFact}
use Rattle.proof_state.specs.Runs.{IsJustified, GoalFollows}
use Rattle.proof_state.specs.Steps.{Command, step}
use Rattle.proof_state.specs.Worth.{IsWorth}
use Rattle.report_markup.specs.declared.report.Report.{Report}
use Rattle.isar_rules.specs.declared.state.Theory.{Theory}
use Rattle.isar_rules.specs.declared.state.Place.TheVariants as place
use Rattle.isar_rules.specs.Cites.{refs}
use Rattle.isar_rules.specs.Forks.{scope_at, verdict, judged_reports, forked_at}
use Rattle.isar_rules.specs.Kept.{errors_in}

-- what proofs and their checks keep
pub record Laws : Type 0 where
  pub begins : (facts : List Fact) (goal : Formula) → IsWorth facts goal (Prove goal [])
  pub kept : (facts : List Fact) (goal : Formula) (command : Command) (old new : Levels)
      → ∥ IsWorth facts goal old ∥₁ → IsJustified facts command old → step command old ≡ Ok new → ∥ IsWorth facts goal new ∥₁
  pub ends : (facts : List Fact) (goal : Formula) → ∥ IsWorth facts goal Closed ∥₁ → ∥ Follows (IsFact facts) (meaning goal) ∥₁
  pub derives : (t : Term) (goal : Formula) (scope : Scoped) (s : List Statement) → checked t goal scope ≡ Ok s → Nj s (meaning goal)
  pub stands : (t : Term) (goal : Formula) (scope : Scoped) (s : List Statement) → checked t goal scope ≡ Ok s
      → (a : Statement) → members s a → Stands scope a

module _ (laws : Laws) (source : List ℕ) (goal : Formula) (scope : Scoped) where
  verdict_clean : (t : Term) (cites : List Report) (r : Result (List Statement) TermFault) → checked t goal scope ≡ r
      → errors_in (verdict source cites r) ≡ [] → Follows (Stands scope) (meaning goal)
  verdict_clean t cites (Ok s) e clean = (s, laws.stands t goal scope s e, laws.derives t goal scope s e)
  verdict_clean t cites (Err fault) e clean = cc

  judged_clean : (r : Result Term TermFault) → errors_in (judged_reports source goal scope r) ≡ [] → Follows (Stands scope) (meaning goal)
  judged_clean (Ok t) clean = verdict_clean t (refs scope t) (checked t goal scope) refl clean
  judged_clean (Err fault) clean = cc

pub goal_follows : Laws → (source : List ℕ) (tokens : List Token) (theory : Theory) (name : List ℕ) (start : Formula) (levels : Levels)
    → errors_in (forked_at source tokens (place.Proof theory name start levels)) ≡ [] → GoalFollows theory.facts levels
goal_follows laws source tokens theory name start Closed clean = tt
goal_follows laws source tokens theory name start (State block around) clean = tt
goal_follows laws source tokens theory name start (Prove goal around) clean =
    ∣ judged_clean laws source goal (scope_at theory (Prove goal around)) (proof_of (marks source (drop 1 tokens))) clean ∣₁
