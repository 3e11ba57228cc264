-- What is pending, and how an operand takes it in (the code's own way; what is promised stands in
-- Answers). The newest stands first.
use Rattle.std.specs.Prelude.{ℕ, if◌then◌else◌, nat_lt, List, [], ◌∷◌, Option, Some, None}
use Rattle.std.specs.Option.{option_map_or}
use Rattle.nj_formula.specs.declared.formula.Formula.{Formula}
use Rattle.nj_formula.specs.declared.formula.Formula.TheVariants as Formulas
use Rattle.nj_syntax.specs.declared.operator.Operator.{Operator}
use Rattle.nj_syntax.specs.declared.state.Pending.{Pending}
use Rattle.nj_syntax.specs.Grammar.{priority, joined, quantified}

-- the names that the pending quantifiers bind, innermost first
abbrev pub bound_names : List Pending → List (List ℕ)
bound_names [] = []
bound_names (Pending.Body q x ∷ below) = x ∷ bound_names below
bound_names (p ∷ below) = bound_names below

-- the least priority in the place of the next operand
abbrev pub place : List Pending → ℕ
place (Pending.Not ∷ below) = 40
place (Pending.Right op a ∷ below) = priority op
place _ = 10

-- what is pending, and an operand
abbrev pub Held : Type 0
Held = List Pending × Formula

-- the operand with what binds more strongly than the operator, which comes next
abbrev pub reduced : Operator → List Pending → Formula → Held
reduced op [] a = ([], a)
reduced op (Pending.Not ∷ below) a = reduced op below (Formulas.Not a)
reduced op (Pending.Right left_op left ∷ below) a =
    if nat_lt (priority op) (priority left_op) then reduced op below (joined left_op left a)
    else (Pending.Right left_op left ∷ below, a)
reduced op (p ∷ below) a = (p ∷ below, a)

-- what takes the operand in, where it lacks nothing else
abbrev pub taken_in : Pending → Formula → Option Formula
taken_in Pending.Not a = Some (Formulas.Not a)
taken_in (Pending.Right op left) a = Some (joined op left a)
taken_in (Pending.Body q x) a = Some (quantified q x a)
taken_in p a = None

-- the operand with all that is pending within the parentheses, and what is pending outside of them
abbrev pub closed_operand : List Pending → Formula → Option Held
closed_operand [] a = None
closed_operand (Pending.Parenthesis ∷ below) a = Some (below, a)
closed_operand (p ∷ below) a = option_map_or (closed_operand below) (taken_in p a) None

-- the operand with all that is pending, where no parenthesis is open
abbrev pub finished : List Pending → Formula → Option Formula
finished [] a = Some a
finished (p ∷ below) a = option_map_or (finished below) (taken_in p a) None
