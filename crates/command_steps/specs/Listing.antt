-- What reading a blob's lines answers (this project's own).
use Rattle.std.specs.Prelude.{◌≡◌, ⊤, ℕ, if◌then◌else◌, List, ◌++◌, Option, Some, None, Result, Ok, Err}
use Rattle.std.specs.List.{list_all}
use Rattle.nj_formula.specs.declared.formula.Formula.{Formula}
use Rattle.nj_syntax.specs.declared.fault.FormulaFault.{FormulaFault}
use Rattle.isar_rules.specs.BlobLines.{Listed, is_gap, fact_in, listed_before}
use Rattle.command_steps.specs.declared.fault.BlobFault.{BlobFault}
use Rattle.command_steps.specs.declared.fault.BlobFault.TheVariants.{BadLine, NoMemory}

-- a text's formula, if it is one
abbrev pub good : Result Formula FormulaFault → Option Formula
good (Ok f) = Some f
good (Err fault) = None

-- what a line of this number and the lines behind it tell
abbrev pub with_line : ℕ → List ℕ → Result (List Listed) ℕ → Result (List Listed) ℕ
with_line number line later =
    if list_all is_gap line then later else listed_before number (fact_in line) later

-- facts, and what later lines tell
abbrev pub joined : List Listed → Result (List Listed) ℕ → Result (List Listed) ℕ
joined facts (Ok later) = Ok (facts ++ later)
joined facts (Err line) = Err line

-- a line was taken to the facts, or is the first bad one
abbrev pub Takes : ℕ → List ℕ → List Listed → List Listed → Result (Unit {0}) BlobFault → Type 0
Takes number line old new (Ok done) = (later : Result (List Listed) ℕ)
    → joined old (with_line number line later) ≡ joined new later
Takes number line old new (Err (BadLine n)) = (later : Result (List Listed) ℕ)
    → joined old (with_line number line later) ≡ Err n
Takes number line old new (Err NoMemory) = ⊤

-- the answer of a call is this, unless memory runs out
abbrev pub Tells : Result (List Listed) ℕ → Result (List Listed) BlobFault → Type 0
Tells told (Ok facts) = told ≡ Ok facts
Tells told (Err (BadLine n)) = told ≡ Err n
Tells told (Err NoMemory) = ⊤
