-- The answers to texts: each text has the one that the function gives, and the grammar is unambiguous.
use Rattle.std.proofs.Common.{◌≡◌, ◌⊎◌, ℕ, List, [], map, Result, Err}
use Rattle.nj_formula.specs.declared.argument.Argument.{Argument}
use Rattle.nj_formula.specs.declared.formula.Formula.{Formula}
use Rattle.nj_syntax.specs.declared.fault.FormulaFault.{FormulaFault}
use Rattle.nj_syntax.specs.declared.state.Mode.{Mode}
use Rattle.nj_syntax.specs.Terms.{Deep}
use Rattle.nj_syntax.specs.Answers.{Answers, IsFormula, IsTerm}
use Rattle.nj_syntax.specs.Steps.{formula_at, term_at}
use Rattle.nj_syntax.specs.Answer.{formula_of, term_of}
use Rattle.nj_syntax.proofs.Readers.{formula_reader, term_reader}
use Rattle.nj_syntax.proofs.Determinism as reading
use Rattle.nj_syntax.proofs.Answered.{answered}
use Rattle.nj_syntax.proofs.OneAnswer.{one_answer}
use Rattle.nj_syntax.proofs.Tells.{tells}

-- tokens are at most one formula
pub one_formula : (deep other : List Deep) (a b : Formula) → map (λ t. t.0) deep ≡ map (λ t. t.0) other
    → IsFormula deep a → IsFormula other b → (deep ≡ other) × (a ≡ b)
one_formula = reading.one_reading IsFormula (Mode.Operand, []) formula_at formula_reader

-- tokens are at most one term
pub one_term : (deep other : List Deep) (t u : Argument) → map (λ t. t.0) deep ≡ map (λ t. t.0) other
    → IsTerm deep t → IsTerm other u → (deep ≡ other) × (t ≡ u)
one_term = reading.one_reading IsTerm (Mode.Argument, []) term_at term_reader

-- the function answers each text
pub formula_answers : (text : List ℕ) → Answers IsFormula text (formula_of text)
formula_answers = answered IsFormula (Mode.Operand, []) formula_at formula_reader

pub term_answers : (text : List ℕ) → Answers IsTerm text (term_of text)
term_answers = answered IsTerm (Mode.Argument, []) term_at term_reader

-- and no other answer is one
pub formula_is : (text : List ℕ) (a : Result Formula FormulaFault) → Answers IsFormula text a
    → (a ≡ Err FormulaFault.NoMemory) ⊎ (a ≡ formula_of text)
formula_is = one_answer IsFormula (Mode.Operand, []) formula_at formula_reader

pub term_is : (text : List ℕ) (a : Result Argument FormulaFault) → Answers IsTerm text a
    → (a ≡ Err FormulaFault.NoMemory) ⊎ (a ≡ term_of text)
term_is = one_answer IsTerm (Mode.Argument, []) term_at term_reader

pub formula_tells : (text : List ℕ) → formula_of text ≡ Err FormulaFault.NoMemory → ⊥
formula_tells = tells formula_at (Mode.Operand, [])

pub term_tells : (text : List ℕ) → term_of text ≡ Err FormulaFault.NoMemory → ⊥
term_tells = tells term_at (Mode.Argument, [])
