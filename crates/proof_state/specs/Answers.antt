-- What a call of a proof command answers.
use Rattle.std.specs.Prelude.{◌≡◌, ⊤, Bool, true, false, Option, Some, None, Result, Ok, Err}
use Rattle.nj_formula.specs.declared.formula.Formula.{Formula}
use Rattle.proof_state.specs.declared.levels.Levels.{Levels}
use Rattle.proof_state.specs.declared.levels.Levels.TheVariants.{Closed, Prove, State}
use Rattle.proof_state.specs.declared.fault.ProofFault.{ProofFault}
use Rattle.proof_state.specs.declared.fault.ProofFault.TheVariants.{NotAllowed, NoSuchSubgoal}
use Rattle.proof_state.specs.declared.fault.ProofFault.TheVariants.{SubgoalsRemain, NotFresh, NoMemory}

-- the answer is what the step gives, unless memory runs out
abbrev pub Gives : Result Levels ProofFault → Result Levels ProofFault → Type 0
Gives stepped (Ok levels) = stepped ≡ Ok levels
Gives stepped (Err NoMemory) = ⊤
Gives stepped (Err NotAllowed) = stepped ≡ Err NotAllowed
Gives stepped (Err NoSuchSubgoal) = stepped ≡ Err NoSuchSubgoal
Gives stepped (Err SubgoalsRemain) = stepped ≡ Err SubgoalsRemain
Gives stepped (Err (NotFresh x)) = stepped ≡ Err (NotFresh x)

-- what a call left behind, as levels or as the refusal
abbrev pub left : {A : Type 0} → Result A ProofFault → Levels → Result Levels ProofFault
left (Ok answer) new = Ok new
left (Err fault) new = Err fault

-- the start's goal is closed
abbrev pub is_closed : Levels → Bool
is_closed Closed = true
is_closed (Prove goal around) = false
is_closed (State block around) = false

-- a block is worked on, in mode state
abbrev pub is_stated : Levels → Bool
is_stated Closed = false
is_stated (Prove goal around) = false
is_stated (State block around) = true

-- the goal that is open, in mode prove
abbrev pub open_goal : Levels → Option Formula
open_goal (Prove goal around) = Some goal
open_goal Closed = None
open_goal (State block around) = None
