-- The grammar of formulas, each token with its depth (priorities as in Isabelle's mixfix
-- annotations; this project's own).
use Rattle.std.specs.Prelude.{◌≡◌, ◌≤◌, ℕ, ◌+◌, Bool, false, ◌||◌, List, [], ◌∷◌, ◌++◌, codes}
use Rattle.std.specs.Str.{bytes_eq}
use Rattle.nj_formula.specs.declared.argument.Argument.{Argument}
use Rattle.nj_formula.specs.declared.formula.Formula.{Formula}
use Rattle.nj_formula.specs.declared.formula.Formula.TheVariants as Formulas
use Rattle.nj_syntax.specs.declared.token.Token.{Token}
use Rattle.nj_syntax.specs.declared.token.Token.TheVariants as Tokens
use Rattle.nj_syntax.specs.declared.operator.Operator.{Operator}
use Rattle.nj_syntax.specs.declared.operator.Quantifier.{Quantifier}
use Rattle.nj_syntax.specs.Terms.{Deep, AreArguments}

-- how strongly an operator binds; `~` has 40, a quantifier 10
abbrev pub priority : Operator → ℕ
priority Operator.And = 35
priority Operator.Or = 30
priority Operator.Implies = 25

-- the sign between two operands
abbrev pub sign : Operator → Token
sign Operator.And = Tokens.And
sign Operator.Or = Tokens.Or
sign Operator.Implies = Tokens.Implies

-- two formulas with the operator between them
abbrev pub joined : Operator → Formula → Formula → Formula
joined Operator.And a b = Formulas.And a b
joined Operator.Or a b = Formulas.Or a b
joined Operator.Implies a b = Formulas.Implies a b

-- the word with which a quantifier begins
abbrev pub word : Quantifier → List ℕ
word Quantifier.All = codes "ALL"
word Quantifier.Exists = codes "EX"

-- the formula that binds the name in the body
abbrev pub quantified : Quantifier → List ℕ → Formula → Formula
quantified Quantifier.All x body = Formulas.All x body
quantified Quantifier.Exists x body = Formulas.Exists x body

-- `False`, `ALL` and `EX` are no atoms
abbrev pub is_word : List ℕ → Bool
is_word x = bytes_eq x (codes "False") || bytes_eq x (codes "ALL") || bytes_eq x (codes "EX")

-- the tokens are the formula in a place for this priority and higher ones, at this depth, under
-- these bound names
pub data Reads : ℕ → ℕ → List (List ℕ) → List Deep → Formula → Type 0 where
  falsity : {p d : ℕ} {bound : List (List ℕ)}
      → Reads p d bound ((Tokens.Name (codes "False"), d) ∷ []) Formulas.False
  atom : {p d : ℕ} {bound : List (List ℕ)} {x : List ℕ} → is_word x ≡ false
      → Reads p d bound ((Tokens.Name x, d) ∷ []) (Formulas.Atom x [])
  predicate : {p d : ℕ} {bound : List (List ℕ)} {x : List ℕ}
      {inside : List Deep} {arguments : List Argument} → is_word x ≡ false
      → AreArguments bound (d + 1) inside arguments
      → Reads p d bound ((Tokens.Name x, d) ∷ (Tokens.Open, d) ∷ inside ++ (Tokens.Close, d) ∷ [])
      (Formulas.Atom x arguments)
  parentheses : {p d : ℕ} {bound : List (List ℕ)} {inside : List Deep} {a : Formula}
      → Reads 10 (d + 1) bound inside a
      → Reads p d bound ((Tokens.Open, d) ∷ inside ++ (Tokens.Close, d) ∷ []) a
  negation : {p d : ℕ} {bound : List (List ℕ)} {operand : List Deep} {a : Formula} → p ≤ 40
      → Reads 40 (d + 1) bound operand a
      → Reads p d bound ((Tokens.Not, d) ∷ operand) (Formulas.Not a)
  -- the left operand binds more strongly, so that operators associate to the right
  operator : {p d : ℕ} {bound : List (List ℕ)} {left right : List Deep} {a b : Formula}
      (op : Operator) → p ≤ priority op
      → Reads (priority op + 1) d bound left a → Reads (priority op) (d + 1) bound right b
      → Reads p d bound (left ++ (sign op, d) ∷ right) (joined op a b)
  -- a quantifier stands outermost, in parentheses or as a quantifier's body
  quantifier : {p d : ℕ} {bound : List (List ℕ)} {x : List ℕ} {body : List Deep} {a : Formula}
      (q : Quantifier) → p ≤ 10
      → Reads 10 (d + 1) (x ∷ bound) body a
      → Reads p d bound ((Tokens.Name (word q), d) ∷ (Tokens.Name x, d) ∷ (Tokens.Dot, d) ∷ body)
      (quantified q x a)
