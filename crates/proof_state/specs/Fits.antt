-- Which subgoal a `show` is for (this project's own).
use Rattle.std.specs.Prelude.{ℕ, Bool, ◌&&◌, List, [], ◌∷◌, Option}
use Rattle.std.specs.List.{list_any, list_all, position_from}
use Rattle.nj_formula.specs.declared.argument.Argument.TheVariants.{Free}
use Rattle.nj_formula.specs.declared.formula.Formula.{Formula}
use Rattle.nj_formula.specs.FormulaInstance.{formula_instance}
use Rattle.proof_state.specs.Same.{says_same}
use Rattle.proof_state.specs.declared.subgoal.Subgoal.{Subgoal}
use Rattle.proof_state.specs.declared.subgoal.Subgoal.TheVariants.{Show, AssumeShow, FixShow}
use Rattle.proof_state.specs.declared.block.Block.{Block}
use Rattle.proof_state.specs.Blocks.{assumptions}

-- the conclusion of the subgoal is c, for one of the fixed names where it asks for one
abbrev pub concludes : List (List ℕ) → Formula → Subgoal → Bool
concludes fixed c (Show g) = says_same c g
concludes fixed c (AssumeShow a g) = says_same c g
concludes fixed c (FixShow x p) =
    list_any (λ y. says_same c (formula_instance (Free y) p)) fixed

-- what the subgoal may be shown from
abbrev pub assumed : Subgoal → List Formula
assumed (Show g) = []
assumed (AssumeShow a g) = a ∷ []
assumed (FixShow x p) = []

-- showing c in the block is showing the subgoal: its conclusion is c, and each assumption of the
-- block is an assumption of the subgoal
abbrev pub fits : Block → Formula → Subgoal → Bool
fits block c subgoal = concludes block.variables c subgoal
    && list_all (λ a. list_any (says_same a) (assumed subgoal)) (assumptions block)

-- the place of the first pending subgoal that fits
abbrev pub fitting : Block → Formula → Option ℕ
fitting block c = position_from (fits block c) 0 block.pending
