-- What each proof command makes of the levels (the Isar language, Wenzel 1999).
use Rattle.std.specs.Prelude.{ℕ, Bool, List, [], ◌∷◌, Option, Some, None, Result, Ok, Err, length, ◌==◌}
use Rattle.std.specs.Prelude.{if◌then◌else◌}
use Rattle.nj_formula.specs.declared.formula.Formula.{Formula}
use Rattle.theory_ctx.specs.Facts.{Fact}
use Rattle.proof_state.specs.declared.local_fact.Origin.TheVariants.{Assumed}
use Rattle.proof_state.specs.declared.block.Block.{Block}
use Rattle.proof_state.specs.declared.frame.Frame.{Frame}
use Rattle.proof_state.specs.declared.frame.Purpose.TheVariants as P
use Rattle.proof_state.specs.declared.levels.Levels.{Levels}
use Rattle.proof_state.specs.declared.levels.Levels.TheVariants.{Closed, Prove, State}
use Rattle.proof_state.specs.declared.fault.ProofFault.{ProofFault}
use Rattle.proof_state.specs.declared.fault.ProofFault.TheVariants as Fault
use Rattle.proof_state.specs.Blocks.{opened, with_fact, achieved}
use Rattle.proof_state.specs.Fits.{fitting}
use Rattle.proof_state.specs.Fresh.{is_taken}

-- a proof command; `fix` sees the facts of the context
pub data Command : Type 0 where
  proof : Bool → Command
  fix : List Fact → List ℕ → Command
  assume : Option (List ℕ) → Formula → Command
  have : Option (List ℕ) → Formula → Command
  show : Formula → Command
  next qed by : Command

-- the levels after the goal is closed: it is the goal of the start, or the block around it has it
abbrev pub closed_levels : Formula → List Frame → Levels
closed_levels goal [] = Closed
closed_levels goal (frame ∷ around) = State (achieved frame.purpose goal frame.block) around

-- the goal is opened for the pending subgoal at this place
abbrev pub shown_levels : Formula → Block → List Frame → Option ℕ → Result Levels ProofFault
shown_levels c block around (Some place) =
    Ok (Prove c (record { block = block; purpose = P.Show place } ∷ around))
shown_levels c block around None = Err Fault.NoSuchSubgoal

-- a command in mode prove
abbrev pub proved : Command → Formula → List Frame → Result Levels ProofFault
proved (proof dash) goal around = Ok (State (opened dash goal) around)
proved by goal around = Ok (closed_levels goal around)
proved _ goal around = Err Fault.NotAllowed

-- a command in mode state
abbrev pub stated_levels : Command → Block → List Frame → Result Levels ProofFault
stated_levels (fix facts x) block around =
    if is_taken facts x block around then Err (Fault.NotFresh x)
    else Ok (State (record block { variables = x ∷ block.variables }) around)
stated_levels (assume name f) block around = Ok (State (with_fact Assumed name f block) around)
stated_levels (have name f) block around =
    Ok (Prove f (record { block = block; purpose = P.Have name } ∷ around))
stated_levels (show c) block around = shown_levels c block around (fitting block c)
stated_levels next block around = Ok (State (record block { variables = []; facts = [] }) around)
stated_levels qed block around =
    if length block.pending == 0 then Ok (closed_levels block.goal around) else Err
    Fault.SubgoalsRemain
stated_levels _ block around = Err Fault.NotAllowed

-- the levels after a command, or why it is refused
abbrev pub step : Command → Levels → Result Levels ProofFault
step command Closed = Err Fault.NotAllowed
step command (Prove goal around) = proved command goal around
step command (State block around) = stated_levels command block around
