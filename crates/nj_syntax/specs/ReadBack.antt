-- A text is read again (by the grammar of nj_syntax).
use Rattle.std.specs.Prelude.{◌≡◌, ℕ, true, List, length, IsAscii, Result, Ok, Err, ⊤}
use Rattle.nj_formula.specs.declared.formula.Formula.{Formula}
use Rattle.nj_formula.specs.Meaning.{meaning}
use Rattle.nj_syntax.specs.declared.token.Placed.{Placed}
use Rattle.nj_syntax.specs.Tokens.{AreTokens}
use Rattle.nj_syntax.specs.declared.fault.FormulaFault.{FormulaFault}
use Rattle.nj_syntax.specs.Terms.{Deep}
use Rattle.nj_syntax.specs.Answers.{AreAt, IsFormula}

-- the text's bytes are its scalars, and it has tokens up to its end, which are this formula or term
pub record IsTextOf {A : Type 0} (Is : List Deep → A → Type 0)
    (text : List ℕ) (a : A) : Type 0 where
  pub ascii : IsAscii text
  pub tokens : List Placed
  pub cut : AreTokens 0 text tokens (length text) true
  pub deep : List Deep
  pub tokens_are : AreAt tokens deep
  pub is : Is deep a

-- the text is a formula that says the same: a up to bound names
abbrev pub IsReadBack : Formula → List ℕ → Type 0
IsReadBack a text = (b : Formula) × IsTextOf IsFormula text b × (meaning b ≡ meaning a)

-- what reading a print answers: the formula up to bound names, if it isn't too deep and memory
-- suffices
abbrev pub IsParsed : Formula → Result Formula FormulaFault → Type 0
IsParsed a (Ok b) = meaning b ≡ meaning a
IsParsed a (Err (FormulaFault.At pos kind)) = ⊥
IsParsed a (Err FormulaFault.TooDeep) = ⊤
IsParsed a (Err FormulaFault.NoMemory) = ⊤
