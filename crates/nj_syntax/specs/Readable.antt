-- The formulas whose prints are read again: a text can say them, and their prints aren't too deep.
use Rattle.std.specs.Prelude.{◌≡◌, ℕ, IsTrue, List, [], Result, Ok, Err, ⊤}
use Rattle.nj_formula.specs.declared.argument.Argument.{Argument}
use Rattle.nj_formula.specs.declared.argument.Argument.TheVariants.{Free}
use Rattle.nj_formula.specs.declared.formula.Formula.{Formula}
use Rattle.nj_formula.specs.declared.formula.Formula.TheVariants.{Not}
use Rattle.nj_formula.specs.Meaning.{meaning}
use Rattle.nj_formula.specs.FormulaInstance.{formula_instance}
use Rattle.text_words.specs.Identifier.{is_identifier}
use Rattle.nj_syntax.specs.declared.fault.FormulaFault.{FormulaFault}
use Rattle.nj_syntax.specs.declared.operator.Operator.{Operator}
use Rattle.nj_syntax.specs.declared.operator.Quantifier.{Quantifier}
use Rattle.nj_syntax.specs.Deepest.{deepest}
use Rattle.nj_syntax.specs.Grammar.{joined, quantified}
use Rattle.nj_syntax.specs.Answers.{Answers, IsFormula}
use Rattle.nj_syntax.specs.Prints.{Prints}
use Rattle.nj_syntax.specs.Spellable.{is_spellable_argument, is_spellable, IsSpellable}
use Rattle.nj_syntax.specs.Within.{is_within}

-- a text can say the formula, and no token of its print is too deep
abbrev pub IsReadable : Formula → Type 0
IsReadable a = IsSpellable a × IsTrue (is_within deepest (meaning a) 10 0)

-- what reading the print of such a formula answers: the formula up to bound names, if memory
-- suffices
abbrev pub IsReadAgain : Formula → Result Formula FormulaFault → Type 0
IsReadAgain a (Ok b) = meaning b ≡ meaning a
IsReadAgain a (Err (FormulaFault.At pos kind)) = ⊥
IsReadAgain a (Err FormulaFault.TooDeep) = ⊥
IsReadAgain a (Err FormulaFault.NoMemory) = ⊤

-- a formula that a text was read as is readable, and the print of a readable formula is read as it
pub record PrintsAreRead : Type 0 where
  pub parsed : (text : List ℕ) (a : Formula) → Answers IsFormula text (Ok a) → IsReadable a
  pub printed : (a : Formula) (text : List ℕ) (answer : Result Formula FormulaFault)
      → IsReadable a → Prints 10 [] a text → Answers IsFormula text answer → IsReadAgain a answer

-- the parts of a readable formula are readable, and so is the body of a quantifier with an
-- identifier in its place
pub record PartsAreReadable : Type 0 where
  pub negated : (a : Formula) → IsReadable (Not a) → IsReadable a
  pub operands : (op : Operator) (a b : Formula) → IsReadable (joined op a b)
      → IsReadable a × IsReadable b
  pub instances : (q : Quantifier) (x y : List ℕ) (a : Formula) → IsReadable (quantified q x a)
      → IsTrue (is_identifier y) → IsReadable (formula_instance (Free y) a)

-- an instance at a term that a text can say is one that a text can say
abbrev pub InstancesAreSpellable : Type 0
InstancesAreSpellable = (t : Argument) (a : Formula) → IsTrue (is_spellable_argument 0 t)
    → IsTrue (is_spellable a 1) → IsSpellable (formula_instance t a)
