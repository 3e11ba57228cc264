-- Why a command is refused, as its report tells it (this project's own).
use Rattle.std.specs.Prelude.{ℕ, List, [], ◌++◌, codes, decimal, Result, Ok, Err}
use Rattle.nj_formula.specs.declared.formula.Formula.{Formula}
use Rattle.nj_syntax.specs.Answer.{formula_of}
use Rattle.nj_syntax.specs.declared.fault.FormulaFault.{FormulaFault}
use Rattle.proof_state.specs.declared.fault.ProofFault.{ProofFault}
use Rattle.proof_state.specs.declared.fault.ProofFault.TheVariants as fault

-- what is tried: what comes of it, or the text of the error
abbrev pub Tried : Type 0 → Type 0
Tried A = Result A (List ℕ)

-- then the next, unless there was an error
abbrev pub and_then : {A B : Type 0} → Tried A → (A → Tried B) → Tried B
and_then (Err text) next = Err text
and_then (Ok a) next = next a

-- a command that has no shape
abbrev pub malformed : List ℕ
malformed = codes "malformed command"

-- a command where it may not stand
abbrev pub not_allowed : List ℕ
not_allowed = codes "not allowed here"

-- a theory of another name than its node
abbrev pub name_differs : List ℕ
name_differs = codes "theory name differs"

-- an import without a theory
abbrev pub bad_import : List ℕ → List ℕ
bad_import name = codes "bad import " ++ name

-- an alias that can be none
abbrev pub bad_keyword : List ℕ → List ℕ
bad_keyword name = codes "bad keyword " ++ name

-- an error of a fact's name
abbrev pub name_taken : List ℕ → List ℕ
name_taken name = codes "name taken " ++ name

-- a blob that is not there
abbrev pub unknown_blob : List ℕ → List ℕ
unknown_blob name = codes "unknown blob " ++ name

-- a line of a blob that is no fact, by its number from 1
abbrev pub bad_blob_line : ℕ → List ℕ
bad_blob_line line = codes "bad blob line " ++ decimal line

-- an error of a quoted formula, by the place in its content
abbrev pub formula_error : FormulaFault → List ℕ
formula_error (FormulaFault.At at kind) = codes "bad formula at " ++ decimal at
formula_error FormulaFault.TooDeep = codes "formula too deep"
formula_error FormulaFault.NoMemory = []

-- the formula that a content is
abbrev pub formula_or : Result Formula FormulaFault → Tried Formula
formula_or (Ok f) = Ok f
formula_or (Err f) = Err (formula_error f)

-- the formula that a quoted text is, or its error
abbrev pub formula_in : List ℕ → Tried Formula
formula_in content = formula_or (formula_of content)

-- an error of a proof command
abbrev pub proof_error : ProofFault → List ℕ
proof_error fault.NotAllowed = not_allowed
proof_error fault.NoSuchSubgoal = codes "no such subgoal"
proof_error fault.SubgoalsRemain = codes "subgoals remain"
proof_error (fault.NotFresh x) = codes "variable " ++ x ++ codes " is not fresh"
proof_error fault.NoMemory = []
