-- The print of a proof state (this project's own).
use Rattle.std.specs.Prelude.{◌≡◌, ℕ, List, [], ◌∷◌, ◌++◌, codes}
use Rattle.nj_formula.specs.declared.formula.Formula.{Formula}
use Rattle.nj_formula.specs.Meaning.{meaning}
use Rattle.nj_syntax.specs.Prints.{Prints}
use Rattle.nj_syntax.specs.Primed.{IsPrimed}
use Rattle.proof_state.specs.declared.subgoal.Subgoal.{Subgoal}
use Rattle.proof_state.specs.declared.subgoal.Subgoal.TheVariants.{Show, AssumeShow, FixShow}
use Rattle.proof_state.specs.declared.block.Block.{Block}
use Rattle.proof_state.specs.declared.levels.Levels.{Levels}
use Rattle.proof_state.specs.declared.levels.Levels.TheVariants.{Closed, Prove, State}

-- the text grew by a piece of which Q holds
abbrev pub Adds : List ℕ → List ℕ → (List ℕ → Type 0) → Type 0
Adds old new Q = (piece : List ℕ) × (new ≡ old ++ piece) × Q piece

-- the text is a piece of which P holds, then one of which Q holds
abbrev pub Then : (List ℕ → Type 0) → (List ℕ → Type 0) → List ℕ → Type 0
Then P Q text = (one : List ℕ) × (more : List ℕ) × (text ≡ one ++ more) × P one × Q more

-- the text is these words
abbrev pub Word : List ℕ → List ℕ → Type 0
Word word text = text ≡ word

-- the text is the formula, with the fewest parentheses
abbrev pub SaysFormula : Formula → List ℕ → Type 0
SaysFormula f = Prints 10 [] f

-- the text is a name to fix and the body of its quantifier, as the quantifier prints them
abbrev pub SaysFixed : List ℕ → Formula → List ℕ → Type 0
SaysFixed x p text = (y : List ℕ) × (body : List ℕ) × IsPrimed [] x (meaning p) y
    × Prints 10 (y ∷ []) p body × (text ≡ codes "fix " ++ (y ++ (codes " show " ++ body)))

-- the text is an assumption and what is to be shown from it
abbrev pub SaysAssumed : Formula → Formula → List ℕ → Type 0
SaysAssumed a c =
    Then (Word (codes "assume "))
    (Then (SaysFormula a) (Then (Word (codes " show ")) (SaysFormula c)))

-- the text is what is left to show
abbrev pub SaysSubgoal : Subgoal → List ℕ → Type 0
SaysSubgoal (Show c) = SaysFormula c
SaysSubgoal (AssumeShow a c) = SaysAssumed a c
SaysSubgoal (FixShow x p) = SaysFixed x p

-- the text has a line for each subgoal
abbrev pub SaysSubgoals : List Subgoal → List ℕ → Type 0
SaysSubgoals [] text = text ≡ []
SaysSubgoals (subgoal ∷ more) text =
    Then (Word (10 ∷ codes "subgoal: ")) (Then (SaysSubgoal subgoal) (SaysSubgoals more)) text

-- the text tells the open goal
abbrev pub SaysGoal : Formula → List ℕ → Type 0
SaysGoal goal = Then (Word (codes "prove: ")) (SaysFormula goal)

-- the text tells the block's goal and its pending subgoals
abbrev pub SaysBlock : Block → List ℕ → Type 0
SaysBlock block =
    Then (Word (codes "state: ")) (Then (SaysFormula block.goal) (SaysSubgoals block.pending))

-- the text tells what is to be done; there is none once the goal of the start is closed
abbrev pub Describes : Levels → List ℕ → Type 0
Describes Closed text = text ≡ []
Describes (Prove goal around) text = SaysGoal goal text
Describes (State block around) text = SaysBlock block text
