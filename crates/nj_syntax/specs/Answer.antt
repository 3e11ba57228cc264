-- The answer to each text as a function: its tokens are read one after the other (by the steps of
-- the reader).
use Rattle.std.specs.Prelude.{ℕ, nat_lt, if◌then◌else◌, List, [], ◌∷◌, Bool, true, false, Option, Some, None, Result, Ok, Err}
use Rattle.nj_formula.specs.declared.argument.Argument.{Argument}
use Rattle.nj_formula.specs.declared.formula.Formula.{Formula}
use Rattle.nj_syntax.specs.declared.token.Placed.{Placed}
use Rattle.nj_syntax.specs.Tokens.{Cut, cut_of}
use Rattle.nj_syntax.specs.declared.fault.FaultKind.{FaultKind}
use Rattle.nj_syntax.specs.declared.fault.FormulaFault.{FormulaFault}
use Rattle.nj_syntax.specs.declared.state.Mode.{Mode}
use Rattle.nj_syntax.specs.Deepest.{deepest}
use Rattle.nj_syntax.specs.Steps.{State, Step, step, formula_at, term_at}

-- the fault, or what comes of the value
abbrev pub and_then : {A B : Type 0} → Result A FormulaFault → (A → Result B FormulaFault)
    → Result B FormulaFault
and_then (Err fault) next = Err fault
and_then (Ok a) next = next a

-- the state after a token with this step, or the fault at the token
abbrev pub stepped_state : Placed → Step → Result State FormulaFault
stepped_state t None = Err (FormulaFault.At t.at FaultKind.Expected)
stepped_state t (Some next) = if nat_lt deepest next.1 then Err FormulaFault.TooDeep else Ok next.0

-- the state after a text's tokens, where these stop, and whether that is the text's end
abbrev pub End : Type 0
End = State × ℕ × Bool

-- from a state on over all of these tokens, or the fault at the first that has one
abbrev pub read_on : State → List Placed → ℕ → Bool → Result End FormulaFault
read_on s [] stop whole = Ok (s, stop, whole)
read_on s (t ∷ more) stop whole =
    and_then (stepped_state t (step s t.token)) (λ next. read_on next more stop whole)

-- the same over what a text is cut into
abbrev pub read_from : State → Cut → Result End FormulaFault
read_from s cut = read_on s cut.tokens cut.stop cut.whole

-- the answer where all tokens have been read: what is found there, if the text ends there too
abbrev pub ended : {A : Type 0} → Option A → ℕ → Bool → Result A FormulaFault
ended found stop false = Err (FormulaFault.At stop FaultKind.Symbol)
ended None stop true = Err (FormulaFault.At stop FaultKind.End)
ended (Some a) stop true = Ok a

-- the answer from a state on, which tells what it has found
abbrev pub answer : {A : Type 0} → (State → Option A) → State → Cut → Result A FormulaFault
answer found start cut = and_then (read_from start cut) (λ end. ended (found end.0) end.1 end.2)

-- the formula that the text is, or its first fault
abbrev pub formula_of : List ℕ → Result Formula FormulaFault
formula_of text = answer formula_at (Mode.Operand, []) (cut_of text)

-- the term that the text is, or its first fault
abbrev pub term_of : List ℕ → Result Argument FormulaFault
term_of text = answer term_at (Mode.Argument, []) (cut_of text)
