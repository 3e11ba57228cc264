-- The command of a shape, by the mode of the proof.
use Rattle.std.proofs.Common.{◌≡◌, true, false, List, is_some, Err, refl}
use Rattle.theory_ctx.specs.Facts.{Fact}
use Rattle.proof_state.specs.declared.levels.Levels.{Levels}
use Rattle.proof_state.specs.declared.levels.Levels.TheVariants.{Closed, Prove, State}
use Rattle.proof_state.specs.Answers.{open_goal, is_stated}
use Rattle.isar_rules.specs.declared.shape.Shape.{Shape}
use Rattle.isar_rules.specs.declared.shape.Shape.TheVariants as shape
use Rattle.isar_rules.specs.Errors.{not_allowed}
use Rattle.isar_rules.specs.Proofs.{ordered_command}
use Rattle.command_steps.specs.Ordered.{in_prove, in_state}

-- in mode prove
pub proves : (facts : List Fact) (s : Shape) (levels : Levels) → is_some (open_goal levels) ≡ true → ordered_command facts s levels ≡ in_prove s
proves facts (shape.Theory n i) (Prove goal around) e = refl
proves facts shape.End (Prove goal around) e = refl
proves facts (shape.Axiom n q) (Prove goal around) e = refl
proves facts (shape.Lemma n q) (Prove goal around) e = refl
proves facts (shape.Load n) (Prove goal around) e = refl
proves facts (shape.Proof d) (Prove goal around) e = refl
proves facts (shape.Fix x) (Prove goal around) e = refl
proves facts (shape.Assume n q) (Prove goal around) e = refl
proves facts (shape.Have n q) (Prove goal around) e = refl
proves facts (shape.Show q) (Prove goal around) e = refl
proves facts shape.Next (Prove goal around) e = refl
proves facts shape.Qed (Prove goal around) e = refl
proves facts shape.By (Prove goal around) e = refl
proves facts s Closed e = absurd cc
proves facts s (State block around) e = absurd cc

-- in mode state
pub states : (facts : List Fact) (s : Shape) (levels : Levels) → is_stated levels ≡ true → ordered_command facts s levels ≡ in_state facts s
states facts (shape.Theory n i) (State block around) e = refl
states facts shape.End (State block around) e = refl
states facts (shape.Axiom n q) (State block around) e = refl
states facts (shape.Lemma n q) (State block around) e = refl
states facts (shape.Load n) (State block around) e = refl
states facts (shape.Proof d) (State block around) e = refl
states facts (shape.Fix x) (State block around) e = refl
states facts (shape.Assume n q) (State block around) e = refl
states facts (shape.Have n q) (State block around) e = refl
states facts (shape.Show q) (State block around) e = refl
states facts shape.Next (State block around) e = refl
states facts shape.Qed (State block around) e = refl
states facts shape.By (State block around) e = refl
states facts s Closed e = absurd cc
states facts s (Prove goal around) e = absurd cc

-- after the end
pub ends : (facts : List Fact) (s : Shape) (levels : Levels) → is_some (open_goal levels) ≡ false → is_stated levels ≡ false → ordered_command facts s levels ≡ Err not_allowed
ends facts (shape.Theory n i) Closed e f = refl
ends facts shape.End Closed e f = refl
ends facts (shape.Axiom n q) Closed e f = refl
ends facts (shape.Lemma n q) Closed e f = refl
ends facts (shape.Load n) Closed e f = refl
ends facts (shape.Proof d) Closed e f = refl
ends facts (shape.Fix x) Closed e f = refl
ends facts (shape.Assume n q) Closed e f = refl
ends facts (shape.Have n q) Closed e f = refl
ends facts (shape.Show q) Closed e f = refl
ends facts shape.Next Closed e f = refl
ends facts shape.Qed Closed e f = refl
ends facts shape.By Closed e f = refl
ends facts s (Prove goal around) e f = absurd cc
ends facts s (State block around) e f = absurd cc

-- in each mode
pub ruleset modes = (proves, states, ends)
