-- How many goals are open behind the commands of a proof.
use Rattle.std.proofs.Common.{if◌then◌else◌, ◌≡◌, ℕ, zero, suc, ◌==◌, Bool, true, false, List, [], ◌∷◌, length, Option, Some, None, Ok, Err, refl}
use Rattle.std.specs.Bool.{⊤}
use Rattle.nj_formula.specs.declared.formula.Formula.{Formula}
use Rattle.theory_ctx.specs.Facts.{Fact}
use Rattle.proof_state.specs.declared.frame.Frame.{Frame}
use Rattle.proof_state.specs.declared.fault.ProofFault.TheVariants.{NotFresh, SubgoalsRemain}
use Rattle.proof_state.specs.declared.levels.Levels.{Levels}
use Rattle.proof_state.specs.declared.levels.Levels.TheVariants.{Closed, Prove, State}
use Rattle.proof_state.specs.Fits.{fitting}
use Rattle.proof_state.specs.Fresh.{is_taken}
use Rattle.proof_state.specs.Steps.{Command, closed_levels, shown_levels, step, proof, fix, assume, have, show, next, qed, by}
use Rattle.report_markup.specs.declared.report.Report.{Report}
use Rattle.isar_rules.specs.declared.shape.Shape.{Shape}
use Rattle.isar_rules.specs.declared.shape.Shape.TheVariants as shape
use Rattle.isar_rules.specs.declared.state.Place.{Place}
use Rattle.isar_rules.specs.declared.state.Place.TheVariants as place
use Rattle.isar_rules.specs.Errors.{Tried, and_then, formula_in}
use Rattle.isar_rules.specs.Proofs.{ordered_command, levels_or, effect_of}
use Rattle.isar_rules.proofs.KnownTried.{IfTried}
use Rattle.soundness_laws.specs.Stated.{goals_behind, are_closed, stated_before}

-- how many goals of a proof are open
abbrev height : List Frame → ℕ
height [] = zero
height (frame ∷ around) = suc (height around)

abbrev pub open_goals : Levels → ℕ
open_goals Closed = zero
open_goals (Prove goal around) = suc (height around)
open_goals (State block around) = suc (height around)

abbrev pub IsOpen : Levels → Type 0
IsOpen Closed = ⊥
IsOpen levels = ⊤

after_formula : {B : Type 0} (Q : B → Type 0) (t : Tried Formula) (behind : Formula → Tried B) → ((f : Formula) → IfTried Q (behind f)) → IfTried Q (and_then t behind)
after_formula Q (Ok f) behind each = each f
after_formula Q (Err text) behind each = tt

module _ (later : List Shape) (blob : Option (List ℕ)) where
  -- a command of a proof opens and closes goals as it is said, and states nothing
  abbrev pub Counted : Shape → Levels → Levels → Type 0
  Counted s levels after = (open_goals after ≡ goals_behind (open_goals levels) s) × (stated_before later blob s ≡ [])

  closed_goals : (goal : Formula) (around : List Frame)
      → open_goals (closed_levels goal around) ≡ height around
  closed_goals goal [] = refl
  closed_goals goal (frame ∷ around) = refl

  pub counted : (facts : List Fact) (s : Shape) (levels : Levels) → IfTried (λ o. IfTried (Counted s levels) (levels_or (step o.0 levels))) (ordered_command facts s levels)
  counted facts (shape.Proof dash) (Prove goal around) = (refl, refl)
  counted facts shape.By (Prove goal around) = (closed_goals goal around, refl)
  counted facts (shape.Fix x) (State block around) = fixed (is_taken facts x.text block around)
    where
      fixed : (b : Bool) → IfTried (Counted (shape.Fix x) (State block around)) (levels_or (if b then Err (NotFresh x.text) else Ok (State (record block { variables = x.text ∷ block.variables }) around)))
      fixed true = tt
      fixed false = (refl, refl)
  counted facts (shape.Assume name quoted) (State block around) = after_formula _ (formula_in quoted.text) _ (λ f. (refl, refl))
  counted facts (shape.Have name quoted) (State block around) = after_formula _ (formula_in quoted.text) _ (λ f. (refl, refl))
  counted facts (shape.Show quoted) (State block around) = after_formula _ (formula_in quoted.text) _ (λ f. go f (fitting block f))
    where
      go : (f : Formula) (o : Option ℕ) → IfTried (Counted (shape.Show quoted) (State block around)) (levels_or (shown_levels f block around o))
      go f (Some k) = (refl, refl)
      go f None = tt
  counted facts shape.Next (State block around) = (refl, refl)
  counted facts shape.Qed (State block around) = go (length block.pending == 0)
    where
      go : (b : Bool) → IfTried (Counted shape.Qed (State block around)) (levels_or (if b then Ok (closed_levels block.goal around) else Err SubgoalsRemain))
      go true = (closed_goals block.goal around, refl)
      go false = tt
  counted facts _ _ = tt

  pub closes_on : (s : Shape) (levels : Levels) → IsOpen levels → are_closed (open_goals levels) (s ∷ later) ≡ are_closed (goals_behind (open_goals levels) s) later
  closes_on s Closed some = absurd some
  closes_on s (Prove goal around) some = refl
  closes_on s (State block around) some = refl

pub made_at : (c : Command) (p : Place) (reports : List Report) → (effect_of c p reports).place ≡ p
made_at by p reports = refl
made_at (proof dash) p reports = refl
made_at (fix facts x) p reports = refl
made_at (assume n f) p reports = refl
made_at (have n f) p reports = refl
made_at (show f) p reports = refl
made_at next p reports = refl
made_at qed p reports = refl
