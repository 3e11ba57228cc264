-- Each accepted command keeps what the levels are worth.
use Rattle.std.proofs.Common.{rules, arith, ◌≡◌, ℕ, Bool, true, false, Option, Some, None, Ok, Err, List, [], ◌∷◌, length, cond, refl, sym, subst}
use Rattle.std.specs.Prelude.{Result, ◌==◌}
use Rattle.std.proofs.Math.Logic.{∥∥₁_map, ∥∥₁_elim, ∥∥₁_prop}
use Rattle.nj_formula.specs.declared.formula.Formula.{Formula}
use Rattle.nj_formula.specs.Meaning.{meaning}
use Rattle.shared_map.specs.Pairs.{Each}
use Rattle.theory_ctx.specs.Facts.{Fact}
use Rattle.proof_state.specs.declared.subgoal.Subgoal.{Subgoal}
use Rattle.proof_state.specs.declared.block.Block.{Block}
use Rattle.proof_state.specs.declared.frame.Frame.{Frame}
use Rattle.proof_state.specs.declared.frame.Purpose.TheVariants as P
use Rattle.proof_state.specs.declared.levels.Levels.{Levels}
use Rattle.proof_state.specs.declared.levels.Levels.TheVariants.{Closed, Prove, State}
use Rattle.proof_state.specs.declared.fault.ProofFault.{ProofFault}
use Rattle.proof_state.specs.declared.fault.ProofFault.TheVariants as Fault
use Rattle.proof_state.specs.Blocks.{achieved}
use Rattle.proof_state.specs.Fits.{fits, fitting}
use Rattle.proof_state.specs.Fresh.{is_taken}
use Rattle.proof_state.specs.Steps.{Command, proof, fix, assume, have, show, next, qed, by, closed_levels, shown_levels, proved, stated_levels, step}
use Rattle.proof_state.specs.Follows.{Follows, IsFact}
use Rattle.proof_state.specs.Worth.{Given, Holds, IsPartOf, IsWorthInside, IsWorth}
use Rattle.proof_state.specs.Runs.{IsJustified, IsProof}
use Rattle.proof_state.proofs.BlockLemmas.{opened_sound, cleared_sound, fixed_sound, assumed_sound, achieved_sound}
use Rattle.proof_state.proofs.FreshLemmas.{not_taken}
use Rattle.proof_state.proofs.FitLemmas.{fits_shown, found_at}
use Rattle.proof_state.proofs.ListLemmas.{each_at}
use Rattle.proof_state.proofs.ScopeLemmas.{scope_follows}

none_left : (Q : Subgoal → Type 0) (subgoals : List Subgoal) → (length subgoals == 0) ≡ true → Each Q subgoals
none_left Q [] e = tt
none_left Q (subgoal ∷ more) e =
    let none : length (subgoal ∷ more) ≡ 0 = search rules in
    absurd (omega (arith, none))

module _ (facts : List Fact) (start : Formula) where
  abbrev pub Worth : Levels → Type 0
  Worth levels = ∥ IsWorth facts start levels ∥₁

  -- what was accepted is worth the goal of the start
  abbrev Kept : Result Levels ProofFault → Type 0
  Kept (Ok levels) = Worth levels
  Kept (Err fault) = Unit {0}

  closed_worth : (goal : Formula) (around : List Frame) → IsWorthInside facts start goal around → Follows (Given facts around) (meaning goal)
      → IsWorth facts start (closed_levels goal around)
  closed_worth goal [] worth d = subst (Follows (IsFact facts)) worth d
  closed_worth goal (frame ∷ around) worth d =
      (achieved_sound (Given facts around) frame.purpose goal frame.block worth.0 d worth.1, inside frame.purpose)
    where
      inside : (purpose : _) → IsWorthInside facts start (achieved purpose goal frame.block).goal around
      inside (P.Have name) = worth.2
      inside (P.Show place) = worth.2

  prove_kept : (command : Command) (goal : Formula) (around : List Frame) → IsJustified facts command (Prove goal around)
      → IsWorthInside facts start goal around → Kept (proved command goal around)
  prove_kept (proof dash) goal around just worth = ∣ (opened_sound (Given facts around) dash goal, worth) ∣₁
  prove_kept by goal around just worth =
      ∥∥₁_map just (λ d. closed_worth goal around worth (scope_follows facts start goal around worth d))
  prove_kept _ goal around just worth = tt

  fixed_kept : (x : List ℕ) (block : Block) (around : List Frame) → IsWorth facts start (State block around)
      → (taken : Bool) → is_taken facts x block around ≡ taken
      → Kept (cond taken (Err (Fault.NotFresh x)) (Ok (State (record block { variables = x ∷ block.variables }) around)))
  fixed_kept x block around worth true is = tt
  fixed_kept x block around worth false is =
      ∣ (fixed_sound (Given facts around) block x (not_taken x facts block around is) worth.0, worth.1) ∣₁

  shown_kept : (c : Formula) (block : Block) (around : List Frame) → IsWorth facts start (State block around)
      → (place : Option ℕ) → fitting block c ≡ place → Kept (shown_levels c block around place)
  shown_kept c block around worth None is = tt
  shown_kept c block around worth (Some place) is =
      let found = found_at (fits block c) block.pending place is in
      let part : IsPartOf block.goal found.0 = each_at (IsPartOf block.goal) block.pending place found.0 found.1 worth.0.parts in
      ∣ ((found.0, found.1, fits_shown (Given facts around) block worth.0 c found.0 part found.2), worth.0, worth.1) ∣₁

  qed_kept : (block : Block) (around : List Frame) → IsWorth facts start (State block around) → (done : Bool) → (length block.pending == 0) ≡ done
      → Kept (cond done (Ok (closed_levels block.goal around)) (Err Fault.SubgoalsRemain))
  qed_kept block around worth false is = tt
  qed_kept block around worth true is =
      ∣ closed_worth block.goal around worth.1 (worth.0.enough (none_left (Holds (Given facts around)) block.pending is)) ∣₁

  state_kept : (command : Command) (block : Block) (around : List Frame) → IsJustified facts command (State block around)
      → IsWorth facts start (State block around) → Kept (stated_levels command block around)
  state_kept (fix seen x) block around just worth =
      subst (λ known. Kept (stated_levels (fix known x) block around)) (sym just) (fixed_kept x block around worth (is_taken facts x block around) refl)
  state_kept (assume name f) block around just worth = ∣ (assumed_sound (Given facts around) name f block worth.0, worth.1) ∣₁
  state_kept (have name f) block around just worth = ∣ (tt, worth.0, worth.1) ∣₁
  state_kept (show c) block around just worth = shown_kept c block around worth (fitting block c) refl
  state_kept next block around just worth = ∣ (cleared_sound (Given facts around) block worth.0, worth.1) ∣₁
  state_kept qed block around just worth = qed_kept block around worth (length block.pending == 0) refl
  state_kept _ block around just worth = tt

  step_kept : (command : Command) (levels : Levels) → IsJustified facts command levels → IsWorth facts start levels → Kept (step command levels)
  step_kept command Closed just worth = tt
  step_kept command (Prove goal around) just worth = prove_kept command goal around just worth
  step_kept command (State block around) just worth = state_kept command block around just worth

  Kept-prop : (r : Result Levels ProofFault) → IsProp (Kept r)
  Kept-prop (Ok levels) = ∥∥₁_prop
  Kept-prop (Err fault) = hlevel

  pub kept : (command : Command) (old new : Levels) → Worth old → IsJustified facts command old → step command old ≡ Ok new → Worth new
  kept command old new worth just is =
      subst Kept is (∥∥₁_elim worth (Kept-prop (step command old)) (λ w. step_kept command old just w))

  pub run : (commands : List Command) (levels : Levels) → Worth levels → IsProof facts commands levels → ∥ Follows (IsFact facts) (meaning start) ∥₁
  run [] levels worth is = subst Worth is worth
  run (command ∷ more) levels worth is = run more is.1 (kept command levels is.1 worth is.0 is.2) is.3

  pub begins : IsWorth facts start (Prove start [])
  begins = refl
