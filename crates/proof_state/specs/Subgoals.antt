-- The subgoals of a goal: what the introduction rule of its outermost symbol asks for (Gentzen
-- 1935).
use Rattle.std.specs.Prelude.{Bool, true, false, List, [], ◌∷◌}
use Rattle.nj_formula.specs.declared.formula.Formula.{Formula, out-Formula}
use Rattle.nj_formula.specs.declared.formula.Formula.TheOpen.{Formula-F}
use Rattle.nj_formula.specs.declared.formula.Formula.TheVariants.{False}
use Rattle.proof_state.specs.declared.subgoal.Subgoal.{Subgoal}
use Rattle.proof_state.specs.declared.subgoal.Subgoal.TheVariants.{Show, AssumeShow, FixShow}

-- the subgoals of a goal whose outermost layer is the second
abbrev pub introduced : Formula → Formula-F Formula → List Subgoal
introduced goal (Formula-F.Implies a b) = AssumeShow a b ∷ []
introduced goal (Formula-F.Not a) = AssumeShow a False ∷ []
introduced goal (Formula-F.And a b) = Show a ∷ Show b ∷ []
introduced goal (Formula-F.All x p) = FixShow x p ∷ []
introduced goal _ = Show goal ∷ []

-- the subgoals of a goal, after `proof -` (with a dash) or `proof`
abbrev pub subgoals_of : Bool → Formula → List Subgoal
subgoals_of true goal = Show goal ∷ []
subgoals_of false goal = introduced goal (out-Formula goal)
