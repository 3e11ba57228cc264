-- How the reader goes from token to token (the code's own way; what is promised stands in Answers).
use Rattle.std.specs.Prelude.{ℕ, ◌+◌, if◌then◌else◌, nat_lt, List, [], ◌∷◌, ◌++◌, length, Option, Some, None, codes}
use Rattle.std.specs.Str.{bytes_eq}
use Rattle.nj_formula.specs.declared.argument.Argument.{Argument}
use Rattle.nj_formula.specs.declared.argument.Argument.TheVariants.{Apply}
use Rattle.nj_formula.specs.declared.formula.Formula.{Formula}
use Rattle.nj_formula.specs.declared.formula.Formula.TheVariants as Formulas
use Rattle.nj_syntax.specs.declared.token.Token.{Token}
use Rattle.nj_syntax.specs.declared.operator.Operator.{Operator}
use Rattle.nj_syntax.specs.declared.operator.Quantifier.{Quantifier}
use Rattle.nj_syntax.specs.declared.state.Pending.{Pending}
use Rattle.nj_syntax.specs.declared.state.Mode.{Mode}
use Rattle.nj_syntax.specs.Terms.{named_term}
use Rattle.nj_syntax.specs.Reduced.{bound_names, place, Held, reduced, closed_operand, finished}

-- what is next, and what is pending
abbrev pub State : Type 0
State = Mode × List Pending

-- that and the token's depth, where the token can stand there
abbrev pub Step : Type 0
Step = Option (State × ℕ)

-- on to this
abbrev pub goes : Mode → List Pending → ℕ → Step
goes next pending depth = Some ((next, pending), depth)

-- an operator waits for its right operand
abbrev pub after_reduced : Operator → Held → Step
after_reduced op held = goes Mode.Operand (Pending.Right op held.1 ∷ held.0) (length held.0)

-- the operand stands in parentheses
abbrev pub after_closed : Option Held → Step
after_closed None = None
after_closed (Some held) = goes (Mode.Operator held.1) held.0 (length held.0)

-- a token after an operand
abbrev pub step_operator : List Pending → Formula → Token → Step
step_operator pending a Token.And = after_reduced Operator.And (reduced Operator.And pending a)
step_operator pending a Token.Or = after_reduced Operator.Or (reduced Operator.Or pending a)
step_operator pending a Token.Implies =
    after_reduced Operator.Implies (reduced Operator.Implies pending a)
step_operator pending a Token.Close = after_closed (closed_operand pending a)
step_operator pending a _ = None

-- a quantifier, which is outermost, in parentheses or in a quantifier's body
abbrev pub step_quantifier : List Pending → Quantifier → Step
step_quantifier pending q =
    if nat_lt 10 (place pending) then None else goes (Mode.Binder q) pending (length pending)

-- a name where an operand begins
abbrev pub step_word : List Pending → List ℕ → Step
step_word pending x =
    if bytes_eq x (codes "False") then goes (Mode.Operator Formulas.False) pending (length pending)
    else
    (if bytes_eq x (codes "ALL") then step_quantifier pending Quantifier.All else
    (if bytes_eq x (codes "EX") then step_quantifier pending Quantifier.Exists else
    goes (Mode.Atom x) pending (length pending)))

-- the first token of an operand
abbrev pub step_operand : List Pending → Token → Step
step_operand pending (Token.Name x) = step_word pending x
step_operand pending Token.Not = goes Mode.Operand (Pending.Not ∷ pending) (length pending)
step_operand pending Token.Open = goes Mode.Operand (Pending.Parenthesis ∷ pending) (length pending)
step_operand pending _ = None

-- a token after an argument
abbrev pub step_comma : List Pending → Argument → Token → Step
step_comma (Pending.Predicate x arguments ∷ below) a Token.Comma =
    goes Mode.Argument (Pending.Predicate x (arguments ++ a ∷ []) ∷ below) (length below + 1)
step_comma (Pending.Predicate x arguments ∷ below) a Token.Close =
    goes (Mode.Operator (Formulas.Atom x (arguments ++ a ∷ []))) below (length below)
step_comma (Pending.Function f arguments ∷ below) a Token.Comma =
    goes Mode.Argument (Pending.Function f (arguments ++ a ∷ []) ∷ below) (length below + 1)
step_comma (Pending.Function f arguments ∷ below) a Token.Close =
    goes (Mode.Comma (Apply f (arguments ++ a ∷ []))) below (length below)
step_comma _ a _ = None

-- any token
abbrev pub step : State → Token → Step
step (Mode.Operand, pending) t = step_operand pending t
step (Mode.Binder q, pending) (Token.Name x) = goes (Mode.Dot q x) pending (length pending)
step (Mode.Dot q x, pending) Token.Dot =
    goes Mode.Operand (Pending.Body q x ∷ pending) (length pending)
step (Mode.Atom x, pending) Token.Open =
    goes Mode.Argument (Pending.Predicate x [] ∷ pending) (length pending)
step (Mode.Atom x, pending) t = step_operator pending (Formulas.Atom x []) t
step (Mode.Operator a, pending) t = step_operator pending a t
step (Mode.Argument, pending) (Token.Name x) = goes (Mode.Head x) pending (length pending)
step (Mode.Head x, pending) Token.Open =
    goes Mode.Argument (Pending.Function x [] ∷ pending) (length pending)
step (Mode.Head x, pending) t = step_comma pending (named_term (bound_names pending) x) t
step (Mode.Comma a, pending) t = step_comma pending a t
step (mode, pending) t = None

-- the formula where the text may end here
abbrev pub formula_at : State → Option Formula
formula_at (Mode.Atom x, pending) = finished pending (Formulas.Atom x [])
formula_at (Mode.Operator a, pending) = finished pending a
formula_at (mode, pending) = None

-- a term by itself
abbrev pub alone : List Pending → Argument → Option Argument
alone [] a = Some a
alone (p ∷ below) a = None

-- the term where the text may end here
abbrev pub term_at : State → Option Argument
term_at (Mode.Head x, pending) = alone pending (named_term [] x)
term_at (Mode.Comma a, pending) = alone pending a
term_at (mode, pending) = None
