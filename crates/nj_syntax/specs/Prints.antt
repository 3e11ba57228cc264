-- The text of a formula (priorities as in Isabelle's mixfix annotations; this project's own).
use Rattle.std.specs.Prelude.{◌≡◌, ◌≤◌, ℕ, ◌+◌, nat_lt, Bool, true, false, List, [], ◌∷◌, ◌++◌, map, codes}
use Rattle.nj_formula.specs.declared.argument.Argument.{Argument}
use Rattle.nj_formula.specs.declared.formula.Formula.{Formula, fold-Formula}
use Rattle.nj_formula.specs.declared.formula.Formula.TheOpen.{Formula-F}
use Rattle.nj_formula.specs.declared.formula.Formula.TheVariants as Formulas
use Rattle.nj_formula.specs.Meaning.{meaning}
use Rattle.nj_syntax.specs.declared.operator.Operator.{Operator}
use Rattle.nj_syntax.specs.declared.operator.Quantifier.{Quantifier}
use Rattle.nj_syntax.specs.Grammar.{priority, joined, word, quantified}
use Rattle.nj_syntax.specs.ArgumentText.{listed, argument_text}
use Rattle.nj_syntax.specs.Primed.{IsPrimed}

-- a space on each side of an operator
abbrev pub operator_text : Operator → List ℕ
operator_text Operator.And = codes " & "
operator_text Operator.Or = codes " | "
operator_text Operator.Implies = codes " --> "

-- one layer; `~` binds with 40, a quantifier with 10, and an atom always fits
abbrev pub enclosed_layer : ℕ → Formula-F Bool → Bool
enclosed_layer p Formula-F.False = false
enclosed_layer p (Formula-F.Atom predicate arguments) = false
enclosed_layer p (Formula-F.Not a) = nat_lt 40 p
enclosed_layer p (Formula-F.And a b) = nat_lt (priority Operator.And) p
enclosed_layer p (Formula-F.Or a b) = nat_lt (priority Operator.Or) p
enclosed_layer p (Formula-F.Implies a b) = nat_lt (priority Operator.Implies) p
enclosed_layer p (Formula-F.All name body) = nat_lt 10 p
enclosed_layer p (Formula-F.Exists name body) = nat_lt 10 p

-- the formula binds too weakly for a place for this priority and higher ones
abbrev pub is_enclosed : ℕ → Formula → Bool
is_enclosed p = fold-Formula Bool (enclosed_layer p)

-- the formula has this text in a place for this priority and higher ones, under these printed
-- names, innermost first
pub data Prints : ℕ → List (List ℕ) → Formula → List ℕ → Type 0 where
  falsity : {p : ℕ} {names : List (List ℕ)} → Prints p names Formulas.False (codes "False")
  atom : {p : ℕ} {names : List (List ℕ)} {x : List ℕ} → Prints p names (Formulas.Atom x []) x
  predicate : {p : ℕ} {names : List (List ℕ)} {x : List ℕ} {t : Argument} {more : List Argument}
      → Prints p names (Formulas.Atom x (t ∷ more))
      (x ++ (codes "(" ++ (listed (map (argument_text names) (t ∷ more)) ++ codes ")")))
  negation : {p : ℕ} {names : List (List ℕ)} {a : Formula} {text : List ℕ} → p ≤ 40
      → Prints 40 names a text → Prints p names (Formulas.Not a) (codes "~" ++ text)
  operator : {p : ℕ} {names : List (List ℕ)} {a b : Formula} {left right : List ℕ} (op : Operator)
      → p ≤ priority op
      → Prints (priority op + 1) names a left → Prints (priority op) names b right
      → Prints p names (joined op a b) (left ++ (operator_text op ++ right))
  quantifier : {p : ℕ} {names : List (List ℕ)} {x y : List ℕ} {a : Formula} {text : List ℕ}
      (q : Quantifier) → p ≤ 10
      → IsPrimed names x (meaning a) y → Prints 10 (y ∷ names) a text
      → Prints p names (quantified q x a) (word q ++ (codes " " ++ (y ++ (codes ". " ++ text))))
  parentheses : {p : ℕ} {names : List (List ℕ)} {a : Formula} {text : List ℕ}
      → is_enclosed p a ≡ true
      → Prints 10 names a text → Prints p names a (codes "(" ++ (text ++ codes ")"))

-- what follows a quantifier's word and a space: the printed name, the dot and the body
pub record PrintsBody (names : List (List ℕ)) (x : List ℕ)
    (a : Formula) (text : List ℕ) : Type 0 where
  pub name : List ℕ
  pub body : List ℕ
  pub is : text ≡ name ++ (codes ". " ++ body)
  pub primed : IsPrimed names x (meaning a) name
  pub prints : Prints 10 (name ∷ names) a body
