-- Names that can't be fixed (after the variable condition of Gentzen 1935).
use Rattle.std.specs.Prelude.{ℕ, Bool, ◌||◌, List}
use Rattle.std.specs.List.{list_any}
use Rattle.std.specs.Str.{bytes_eq}
use Rattle.nj_formula.specs.declared.formula.Formula.{Formula}
use Rattle.nj_formula.specs.Meaning.{meaning}
use Rattle.nj_formula.specs.Free.{is_free}
use Rattle.theory_ctx.specs.Facts.{Fact}
use Rattle.proof_state.specs.declared.block.Block.{Block}
use Rattle.proof_state.specs.declared.frame.Frame.{Frame}

-- the name is free in the formula
abbrev pub is_in : List ℕ → Formula → Bool
is_in x f = is_free x (meaning f)

-- the name is fixed in the block, or free in its goal, in an assumption or in a fact of it
abbrev pub is_used : List ℕ → Block → Bool
is_used x block = list_any (λ y. bytes_eq y x) block.variables || is_in x block.goal
    || list_any (λ fact. is_in x fact.formula) block.facts

-- the same of a block or of one around it, or the name is free in a fact of the context
abbrev pub is_taken : List Fact → List ℕ → Block → List Frame → Bool
is_taken facts x block around = list_any (λ fact. is_in x fact.1) facts || is_used x block
    || list_any (λ frame. is_used x frame.block) around
