-- Commands of proofs keep that what may be cited can be written.
use Rattle.std.proofs.Common.{ℕ, ◌==◌, Bool, true, false, cond, List, [], ◌∷◌, length, Option, Some, None, IfSome, Ok, Err}
use Rattle.std.specs.Prelude.{⊤, Result}
use Rattle.std.specs.List.{AllByRecursion}
use Rattle.nj_formula.specs.declared.formula.Formula.{Formula}
use Rattle.nj_syntax.specs.Readable.{IsReadable}
use Rattle.theory_ctx.specs.Facts.{Fact}
use Rattle.proof_state.specs.declared.block.Block.{Block}
use Rattle.proof_state.specs.declared.fault.ProofFault.{ProofFault}
use Rattle.proof_state.specs.declared.fault.ProofFault.TheVariants as Fault
use Rattle.proof_state.specs.declared.frame.Frame.{Frame}
use Rattle.proof_state.specs.declared.frame.Purpose.{Purpose}
use Rattle.proof_state.specs.declared.frame.Purpose.TheVariants as P
use Rattle.proof_state.specs.declared.levels.Levels.{Levels}
use Rattle.proof_state.specs.declared.levels.Levels.TheVariants.{Closed, Prove, State}
use Rattle.proof_state.specs.Blocks.{achieved}
use Rattle.proof_state.specs.Fits.{fitting}
use Rattle.proof_state.specs.Fresh.{is_taken}
use Rattle.proof_state.specs.Steps.{Command, closed_levels, shown_levels, proved, stated_levels, step, proof, fix, assume, have, show, next, qed, by}
use Rattle.report_markup.specs.declared.report.Report.{Report}
use Rattle.isar_rules.specs.declared.shape.Shape.{Shape}
use Rattle.isar_rules.specs.declared.shape.Shape.TheVariants as shape
use Rattle.isar_rules.specs.declared.shape.Spot.{Spot}
use Rattle.isar_rules.specs.declared.state.Theory.{Theory}
use Rattle.isar_rules.specs.declared.state.Place.{Place}
use Rattle.isar_rules.specs.Effects.{Effect}
use Rattle.isar_rules.specs.Errors.{and_then, formula_in}
use Rattle.isar_rules.specs.Proofs.{Ordered, text_of_name, ordered_command, levels_or, effect_of, stands, proof_made}
use Rattle.isar_rules.proofs.KnownTried.{IfTried, chained}
use Rattle.soundness_laws.specs.Citable.{IsFree}
use Rattle.soundness_laws.specs.CitableStates.{CitableBlock, CitablePurpose, CitableFrame, CitableLevels, CitablePlace}
use Rattle.soundness_laws.proofs.ChainedTries.{in_readable}
use Rattle.soundness_laws.proofs.FreeShapes.{ShapeFree}

module _ (aliases : List (List ℕ)) where
  -- what a proof command states can be written
  CommandCitable : Command → Type 0
  CommandCitable (assume n f) = IfSome n (IsFree aliases) × IsReadable f
  CommandCitable (have n f) = IfSome n (IsFree aliases) × IsReadable f
  CommandCitable (show f) = IsReadable f
  CommandCitable _ = ⊤

  abbrev Frames : List Frame → Type 0
  Frames around = AllByRecursion (CitableFrame aliases) around

  achieved_citable : (purpose : Purpose) (goal : Formula) (block : Block) → CitablePurpose aliases purpose → IsReadable goal → CitableBlock aliases block
      → CitableBlock aliases (achieved purpose goal block)
  achieved_citable (P.Have name) goal block free readable citable = (citable.0, ((free, readable), citable.1))
  achieved_citable (P.Show place) goal block free readable citable = citable

  closed_citable : (goal : Formula) (around : List Frame) → IsReadable goal → Frames around → CitableLevels aliases (closed_levels goal around)
  closed_citable goal [] readable all = tt
  closed_citable goal (frame ∷ around) readable all = (achieved_citable frame.purpose goal frame.block all.0.1 readable all.0.0, all.1)

  -- of levels that are reached
  abbrev IfReached : Result Levels ProofFault → Type 0
  IfReached (Ok levels) = CitableLevels aliases levels
  IfReached (Err fault) = ⊤

  proved_citable : (c : Command) (goal : Formula) (around : List Frame) → IsReadable goal → Frames around → IfReached (proved c goal around)
  proved_citable (proof dash) goal around readable all = ((readable, tt), all)
  proved_citable by goal around readable all = closed_citable goal around readable all
  proved_citable _ goal around readable all = tt

  shown_citable : (c : Formula) (block : Block) (around : List Frame) (fits : Option ℕ) → IsReadable c → CitableBlock aliases block → Frames around → IfReached (shown_levels c block around fits)
  shown_citable c block around (Some place) readable citable all = (readable, ((citable, tt), all))
  shown_citable c block around None readable citable all = tt

  stated_citable : (c : Command) (block : Block) (around : List Frame) → CommandCitable c → CitableBlock aliases block → Frames around → IfReached (stated_levels c block around)
  unfolding CommandCitable
  stated_citable (fix facts x) block around command citable all = go (is_taken facts x block around)
    where
      go : (b : Bool) → IfReached (cond b (Err (Fault.NotFresh x)) (Ok (State (record block { variables = x ∷ block.variables }) around)))
      go true = tt
      go false = (citable, all)
  stated_citable (assume name f) block around command citable all = ((citable.0, (command, citable.1)), all)
  stated_citable (have name f) block around command citable all = (command.1, ((citable, command.0), all))
  stated_citable (show c) block around command citable all = shown_citable c block around (fitting block c) command citable all
  stated_citable next block around command citable all = ((citable.0, tt), all)
  stated_citable qed block around command citable all = go (length block.pending == 0)
    where
      go : (b : Bool)
          → IfReached (cond b (Ok (closed_levels block.goal around)) (Err Fault.SubgoalsRemain))
      go true = closed_citable block.goal around citable.0 all
      go false = tt
  stated_citable _ block around command citable all = tt

  step_citable : (c : Command) (levels : Levels) → CommandCitable c → CitableLevels aliases levels → IfReached (step c levels)
  step_citable c Closed command citable = tt
  step_citable c (Prove goal around) command citable = proved_citable c goal around citable.0 citable.1
  step_citable c (State block around) command citable = stated_citable c block around command citable.0 citable.1

  abbrev OrderCitable : Ordered → Type 0
  OrderCitable o = CommandCitable o.0

  named_free : (name : Option Spot) → IfSome name (λ n. IsFree aliases n.text) → IfSome (text_of_name name) (IsFree aliases)
  named_free None free = tt
  named_free (Some n) free = free

  ordered_citable : (facts : List Fact) (s : Shape) (levels : Levels) → ShapeFree aliases s → IfTried OrderCitable (ordered_command facts s levels)
  unfolding CommandCitable
  ordered_citable facts (shape.Proof dash) (Prove goal around) free = tt
  ordered_citable facts shape.By (Prove goal around) free = tt
  ordered_citable facts (shape.Fix x) (State block around) free = tt
  ordered_citable facts (shape.Assume None quoted) (State block around) free = chained IsReadable OrderCitable (formula_in quoted.text) _ (in_readable quoted.text) (λ f readable. (tt, readable))
  ordered_citable facts (shape.Assume (Some n) quoted) (State block around) free = chained IsReadable OrderCitable (formula_in quoted.text) _ (in_readable quoted.text) (λ f readable. (free, readable))
  ordered_citable facts (shape.Have None quoted) (State block around) free = chained IsReadable OrderCitable (formula_in quoted.text) _ (in_readable quoted.text) (λ f readable. (tt, readable))
  ordered_citable facts (shape.Have (Some n) quoted) (State block around) free = chained IsReadable OrderCitable (formula_in quoted.text) _ (in_readable quoted.text) (λ f readable. (free, readable))
  ordered_citable facts (shape.Show quoted) (State block around) free = chained IsReadable OrderCitable (formula_in quoted.text) _ (in_readable quoted.text) (λ f readable. readable)
  ordered_citable facts shape.Next (State block around) free = tt
  ordered_citable facts shape.Qed (State block around) free = tt
  ordered_citable facts _ _ free = tt

  stands_citable : (theory : Theory) (name : List ℕ) (goal : Formula) (levels : Levels) → CitableLevels aliases levels → CitablePlace aliases (stands theory name goal levels)
  stands_citable theory name goal Closed citable = tt
  stands_citable theory name goal (Prove inner around) citable = citable
  stands_citable theory name goal (State block around) citable = citable

  effect_citable : (c : Command) (p : Place) (reports : List Report) → CitablePlace aliases p → CitablePlace aliases (effect_of c p reports).place
  effect_citable by p reports citable = citable
  effect_citable (proof dash) p reports citable = citable
  effect_citable (fix facts x) p reports citable = citable
  effect_citable (assume n f) p reports citable = citable
  effect_citable (have n f) p reports citable = citable
  effect_citable (show f) p reports citable = citable
  effect_citable next p reports citable = citable
  effect_citable qed p reports citable = citable

  pub proof_citable : (theory : Theory) (name : List ℕ) (goal : Formula) (levels : Levels) (s : Shape) → CitableLevels aliases levels → ShapeFree aliases s
      → IfTried (λ e. CitablePlace aliases e.place) (proof_made theory name goal levels s)
  proof_citable theory name goal levels s citable free =
      chained OrderCitable (λ (e : Effect). CitablePlace aliases e.place) (ordered_command theory.facts s levels) _ (ordered_citable theory.facts s levels free)
      (λ o command. reached o (step o.0 levels) (step_citable o.0 levels command citable))
    where
      reached : (o : Ordered) (r : Result Levels ProofFault) → IfReached r
          → IfTried (λ (e : Effect). CitablePlace aliases e.place) (and_then (levels_or r) (λ after. Ok (effect_of o.0 (stands theory name goal after) o.1)))
      reached o (Ok after) is = effect_citable o.0 (stands theory name goal after) o.1 (stands_citable theory name goal after is)
      reached o (Err fault) is = tt
