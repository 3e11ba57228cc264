-- The text of a proof state as a function (this project's own).
use Rattle.std.specs.Prelude.{ℕ, List, [], ◌∷◌, ◌++◌, codes}
use Rattle.std.specs.List.{flat_map}
use Rattle.nj_formula.specs.declared.formula.Formula.{Formula}
use Rattle.nj_formula.specs.Meaning.{meaning}
use Rattle.proof_state.specs.declared.subgoal.Subgoal.{Subgoal}
use Rattle.proof_state.specs.declared.subgoal.Subgoal.TheVariants.{Show, AssumeShow, FixShow}
use Rattle.proof_state.specs.declared.levels.Levels.{Levels}
use Rattle.proof_state.specs.declared.levels.Levels.TheVariants.{Closed, Prove, State}
use Rattle.nj_syntax.specs.Printed.{primed, text_in, formula_text}

-- a name to fix and the body of its quantifier
abbrev pub fix_text : List ℕ → Formula → List ℕ
fix_text y body = codes "fix " ++ (y ++ (codes " show " ++ text_in 10 (y ∷ []) body))

-- what is left to show
abbrev pub subgoal_text : Subgoal → List ℕ
subgoal_text (Show c) = formula_text c
subgoal_text (AssumeShow a c) =
    codes "assume " ++ (formula_text a ++ (codes " show " ++ formula_text c))
subgoal_text (FixShow x p) = fix_text (primed [] x (meaning p)) p

-- a line for each subgoal
abbrev pub subgoal_lines : List Subgoal → List ℕ
subgoal_lines = flat_map (λ subgoal. 10 ∷ (codes "subgoal: " ++ subgoal_text subgoal))

-- the open goal, or the block's goal and its pending subgoals
abbrev pub levels_text : Levels → List ℕ
levels_text Closed = []
levels_text (Prove goal around) = codes "prove: " ++ formula_text goal
levels_text (State block around) =
    codes "state: " ++ (formula_text block.goal ++ subgoal_lines block.pending)
