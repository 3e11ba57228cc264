-- Accepted proofs.
use Rattle.std.specs.Prelude.{◌≡◌, List, [], ◌∷◌, Ok}
use Rattle.nj_formula.specs.Meaning.{meaning}
use Rattle.theory_ctx.specs.Facts.{Fact}
use Rattle.proof_state.specs.declared.levels.Levels.{Levels}
use Rattle.proof_state.specs.declared.levels.Levels.TheVariants.{Closed, Prove, State}
use Rattle.proof_state.specs.Steps.{Command, step, fix, by}
use Rattle.proof_state.specs.Follows.{Follows, IsInScope}

-- the open goal, if there is one, follows from facts that can be cited
abbrev pub GoalFollows : List Fact → Levels → Type 0
GoalFollows facts Closed = Unit {0}
GoalFollows facts (State block around) = Unit {0}
GoalFollows facts (Prove goal around) =
    ∥ Follows (IsInScope facts (Prove goal around)) (meaning goal) ∥₁

-- a `by` closes a goal that follows from facts that can be cited, and a `fix` sees these facts
abbrev pub IsJustified : List Fact → Command → Levels → Type 0
IsJustified facts by levels = GoalFollows facts levels
IsJustified facts (fix seen x) levels = seen ≡ facts
IsJustified facts _ levels = Unit {0}

-- the commands are accepted one after the other, each is justified, and the last one closes the
-- goal of the start
abbrev pub IsProof : List Fact → List Command → Levels → Type 0
IsProof facts [] levels = levels ≡ Closed
IsProof facts (command ∷ more) levels = IsJustified facts command levels
    × (after : Levels) × (step command levels ≡ Ok after) × IsProof facts more after
